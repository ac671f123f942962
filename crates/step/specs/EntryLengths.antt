-- Depths and lengths of a list with an entry carried or placed: one entry more than before exactly where the old one is missed.
use Rattle.std.specs.Prelude.{ℕ, suc, ◌+◌, ◌≤◌, min, max, ◌≡◌, refl, List, [], ◌∷◌, eqb, length, take}
use Rattle.std.proofs.Common.{arith, length-take, eqb-true}
use Rattle.std.proofs.lemmas.Bool.{eqb-false}
use Rattle.rules.specs.Cases.{by_cases}
use Rattle.theory.specs.Priority.{Priority, lower}
use Rattle.theory.specs.OnePass.{carry, depth, depth_from}
use Rattle.kept.specs.Entries.{place_entry}
use Rattle.step.specs.Stepped.{next}

-- a page that is not there has depth 0, wherever counting starts
pub depth_zero : (i j x : ℕ) (l : List ℕ) → depth_from (suc i) x l ≡ 0 → depth_from (suc j) x l ≡ 0
unfolding depth_from
depth_zero i j x [] h = refl
depth_zero i j x (z ∷ l) h =
    by_cases (eqb z x) (λ e. absurd (omega (arith, rw e at h))) (λ e. rw e (depth_zero (suc i) (suc j) x l (rw e at h)))

-- counting that starts one place later ends one place later
pub depth_later : (i x : ℕ) (l : List ℕ) → (depth_from (suc i) x l ≡ 0 → ⊥)
    → depth_from (suc (suc i)) x l ≡ depth_from (suc i) x l + 1
unfolding depth_from
depth_later i x [] h = absurd (h refl)
depth_later i x (z ∷ l) h =
    by_cases (eqb z x) (λ e. rw e (omega arith))
    (λ e. rw e (depth_later (suc i) x l (λ q. h (rw e q))))

-- where the old entry is found, as many places are filled as there were
pub carry_length : (above : Priority) (i old y : ℕ) (l : List ℕ) → (depth_from (suc i) old l ≡ 0 → ⊥)
    → length (carry above old y l) ≡ length l
unfolding depth_from carry
carry_length above i old y [] h = absurd (h refl)
carry_length above i old y (z ∷ l) h =
    by_cases (eqb z old) (λ e. rw e)
    (λ e. rw (e, carry_length above (suc i) old (lower above y z) l (λ q. h (rw e q))))

-- where it is not, there is one entry more than there are places
carry_longer : (above : Priority) (i old y : ℕ) (l : List ℕ) → depth_from (suc i) old l ≡ 0
    → length (carry above old y l) ≡ suc (length l)
unfolding depth_from carry
carry_longer above i old y [] h = refl
carry_longer above i old y (z ∷ l) h =
    by_cases (eqb z old) (λ e. absurd (omega (arith, rw e at h)))
    (λ e. rw (e, carry_longer above (suc i) old (lower above y z) l (rw e at h)))

pub place_entry_length : (above : Priority) (old new : ℕ) (l : List ℕ) → (depth old l ≡ 0 → ⊥)
    → length (place_entry above old new l) ≡ length l
unfolding depth_from place_entry
place_entry_length above old new [] h = absurd (h refl)
place_entry_length above old new (y ∷ l) h =
    by_cases (eqb y old) (λ e. rw e) (λ e. rw (e, carry_length above 1 old y l (λ q. h (rw e q))))

pub place_entry_longer : (above : Priority) (old new : ℕ) (l : List ℕ) → depth old l ≡ 0
    → length (place_entry above old new l) ≡ suc (length l)
unfolding depth_from place_entry
place_entry_longer above old new [] h = refl
place_entry_longer above old new (y ∷ l) h =
    by_cases (eqb y old) (λ e. absurd (omega (arith, rw e at h))) (λ e. rw (e, carry_longer above 1 old y l (rw e at h)))

-- a list never shrinks
pub next_grows : (above : Priority) (k old new n : ℕ) (memory : List ℕ)
    → length (take n memory) ≤ length (next above k old new n memory)
unfolding next
next_grows above k old new n memory =
    rw (length-take (max (length (take n memory)) (min k (length memory))) (place_entry above old new (take n memory)))
    (by_cases (eqb (depth old (take n memory)) 0)
    (λ e. omega (arith, place_entry_longer above old new (take n memory) (eqb-true (depth old (take n memory)) 0 e)))
    (λ e. omega (arith, place_entry_length above old new (take n memory) (eqb-false (depth old (take n memory)) 0 e))))
