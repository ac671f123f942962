-- Where the first bad page stands, and what that says of the refusal (rule R3).
use Rattle.std.specs.Prelude.{ℕ, suc, ◌+◌, ◌≤◌, ◌<◌, cond, Err, ◌≡◌, refl, List, [], ◌∷◌, leb, length, drop, get_or}
use Rattle.std.proofs.Common.{arith, drop_of_length-le, drop-cons, add-one, le-leb}
use Rattle.std.proofs.lemmas.Bool.{lt-leb}
use Rattle.rules.specs.Limits.{pages}
use Rattle.rules.specs.Refusals.{Answer, first_bad_page}
use Rattle.rules.specs.declared.refusal.Refusal.TheVariants.{BadPage}
use Rattle.rules.specs.Cases.{by_cases}

-- the index of the first bad page, or of the end; `i` references stand before these
unfoldable pub first_bad : ℕ → List ℕ → ℕ
first_bad i [] = i
first_bad i (p ∷ trace) = cond (leb pages p) i (first_bad (suc i) trace)

pub first_bad_found : (i : ℕ) (trace : List ℕ) (rest : Answer) → first_bad i trace < i + length trace
    → first_bad_page i trace rest ≡ Err (BadPage (first_bad i trace))
unfolding first_bad first_bad_page
first_bad_found i [] rest h = absurd (omega arith)
first_bad_found i (p ∷ trace) rest h =
    by_cases (leb pages p) (λ e. rw e) (λ e. rw e (first_bad_found (suc i) trace rest (omega (arith, rw e at h))))

pub first_bad_most : (i : ℕ) (trace : List ℕ) → first_bad i trace ≤ i + length trace
unfolding first_bad
first_bad_most i [] = omega arith
first_bad_most i (p ∷ trace) =
    by_cases (leb pages p) (λ e. rw e (omega arith)) (λ e. rw e (omega (arith, first_bad_most (suc i) trace)))

pub first_bad_none : (i : ℕ) (trace : List ℕ) (rest : Answer) → i + length trace ≤ first_bad i trace
    → first_bad_page i trace rest ≡ rest
unfolding first_bad first_bad_page
first_bad_none i [] rest h = refl
first_bad_none i (p ∷ trace) rest h =
    by_cases (leb pages p) (λ e. absurd (omega (arith, rw e at h)))
    (λ e. rw e (first_bad_none (suc i) trace rest (omega (arith, rw e at h))))

-- looking for it, reference by reference
pub first_bad_at : (trace : List ℕ) (i : ℕ) → i < length trace → pages ≤ get_or trace i 0 → first_bad i (drop i trace) ≡ i
unfolding first_bad
first_bad_at trace i h bad = rw (drop-cons trace i 0 h, le-leb pages (get_or trace i 0) bad)

pub first_bad_next : (trace : List ℕ) (i : ℕ) → i < length trace → get_or trace i 0 < pages
    → first_bad i (drop i trace) ≡ first_bad (i + 1) (drop (i + 1) trace)
unfolding first_bad
first_bad_next trace i h good = rw (drop-cons trace i 0 h, lt-leb pages (get_or trace i 0) good, add-one i)

pub first_bad_end : (trace : List ℕ) (i : ℕ) → length trace ≤ i → first_bad i (drop i trace) ≡ i
unfolding first_bad
first_bad_end trace i h = rw (drop_of_length-le trace h)
