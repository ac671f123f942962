-- Lists of pages that are all below a limit: what a run of such pages gives is below it too.
use Rattle.std.specs.Prelude.{ℕ, zero, suc, ◌≤◌, ◌<◌, eqb, take}
use Rattle.std.proofs.Common.{arith}
use mathlib.Core.List.{List, [], ◌∷◌}
use Rattle.theory.specs.Priority.{Priority, Policy}
use Rattle.theory.specs.OnePass.{carry, place, step, list_after}
use Rattle.rules.specs.Cases.{by_cases}

abbrev pub Below : ℕ → List ℕ → Type 0
Below n [] = Unit
Below n (p ∷ l) = (p < n) × Below n l

pub below_take : (n k : ℕ) (l : List ℕ) → Below n l → Below n (take k l)
below_take n zero l h = tt
below_take n (suc k) [] h = tt
below_take n (suc k) (z ∷ l) h = (h.0, below_take n k l h.1)

pub below_mono : (m n : ℕ) (l : List ℕ) → m ≤ n → Below m l → Below n l
below_mono m n [] d h = tt
below_mono m n (z ∷ l) d h = (omega (arith, h.0), below_mono m n l d h.1)

module _ (n : ℕ) (above : Priority) (x : ℕ) where
  carry_below : (y : ℕ) (l : List ℕ) → y < n → Below n l → Below n (carry above x y l)
  unfolding carry
  carry_below y [] hy hl = (hy, tt)
  carry_below y (z ∷ l) hy hl =
      by_cases (eqb z x) (λ e. rw e (hy, hl.1))
      (λ e. rw e (by_cases (above y z) (λ a. rw a (hy, carry_below z l hl.0 hl.1))
      (λ a. rw a (hl.0, carry_below y l hy hl.1))))

  place_below : (l : List ℕ) → x < n → Below n l → Below n (place above x l)
  unfolding place
  place_below [] hx hl = (hx, tt)
  place_below (y ∷ l) hx hl = by_cases (eqb y x) (λ e. rw e hl) (λ e. rw e (hx, carry_below y l hl.0 hl.1))

pub list_below : (n : ℕ) (policy : Policy) (k : ℕ) (past to : List ℕ) → Below n past → Below n (list_after policy k past to)
unfolding list_after step
list_below n policy k [] to h = tt
list_below n policy k (x ∷ past) to h =
    below_take n k (place (policy past to) x (list_after policy k past (x ∷ to)))
    (place_below n (policy past to) x (list_after policy k past (x ∷ to)) h.0 (list_below n policy k past (x ∷ to) h.1))
