-- A depth of 1 to n is a place among the first n (rule M6).
use Rattle.std.specs.Prelude.{ℕ, zero, suc, ◌+◌, ◌≤◌, false, ◌≡◌, refl, List, [], ◌∷◌, eqb, leb, take, length}
use Rattle.std.proofs.Common.{arith, add-suc, suc-add, add-zero, zero-add, le-leb, leb-false}
use Rattle.std.proofs.Math.Seq.{take-nil}
use Rattle.std.proofs.lemmas.Bool.{lt-leb}
use Rattle.rules.specs.Lists.{holds}
use Rattle.theory.specs.OnePass.{depth, depth_from, within}
use Rattle.rules.specs.Cases.{by_cases}

-- a page that is looked for from place i + 1 on is at no place up to i
depth_below : (i x : ℕ) (l : List ℕ) → within (depth_from (suc i) x l) i ≡ false
unfolding depth_from
depth_below i x [] = refl
depth_below i x (z ∷ l) = by_cases (eqb z x) (λ e. rw (e, le-leb 1 (suc i) (omega arith), lt-leb (suc i) i (omega arith)))
    (λ e. rw e (no_sooner (depth_from (suc (suc i)) x l) (depth_below (suc i) x l)))
  where
    no_sooner : (d : ℕ) → within d (suc i) ≡ false → within d i ≡ false
    no_sooner d h =
        by_cases (leb 1 d) (λ e. rw (e, lt-leb d i (omega (arith, leb-false d (suc i) (rw e at h))))) (λ e. rw e)

depth_from_law : (i n x : ℕ) (l : List ℕ) → within (depth_from (suc i) x l) (i + n) ≡ holds x (take n l)
unfolding depth_from holds
depth_from_law i n x [] = rw (take-nil {A = ℕ} n)
depth_from_law i zero x (z ∷ l) = rw (add-zero i) (depth_below i x (z ∷ l))
depth_from_law i (suc n) x (z ∷ l) =
    by_cases (eqb z x) (λ e. rw (e, le-leb 1 (suc i) (omega arith), le-leb (suc i) (i + suc n) (omega arith)))
    (λ e. rw (e, add-suc i n, ← suc-add i n) (depth_from_law (suc i) n x l))

pub depth_within : (x n : ℕ) (l : List ℕ) → within (depth x l) n ≡ holds x (take n l)
depth_within x n l = rw zero-add at (depth_from_law 0 n x l)

-- a depth is no more than there are places
pub depth_most : (i x : ℕ) (l : List ℕ) → depth_from (suc i) x l ≤ i + length l
unfolding depth_from
depth_most i x [] = omega arith
depth_most i x (z ∷ l) = by_cases (eqb z x) (λ e. rw e (omega arith)) (λ e. rw e (omega (arith, depth_most (suc i) x l)))
