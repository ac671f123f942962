-- The list of k places is the unlimited list cut at k (rule M4), so its first places do not depend on k.
use Rattle.std.specs.Prelude.{ℕ, zero, suc, ◌≤◌, ◌≡◌, refl, List, [], ◌∷◌, eqb, take}
use Rattle.std.proofs.Common.{arith, sym, take-take}
use Rattle.std.proofs.Math.Seq.{take-nil}
use Rattle.theory.specs.Priority.{Priority, Policy, lower}
use Rattle.theory.specs.OnePass.{carry, place, step, list_after, unlimited}
use Rattle.rules.specs.Cases.{by_cases}

-- what stands past the first n places does not reach them
pub carry_cut : (above : Priority) (x n y : ℕ) (l : List ℕ) → take n (carry above x y (take n l)) ≡ take n (carry above x y l)
unfolding carry
carry_cut above x zero y l = refl
carry_cut above x (suc n) y [] = refl
carry_cut above x (suc n) y (z ∷ l) =
    by_cases (eqb z x) (λ e. rw (e, take-take n n l (omega arith)))
    (λ e. rw (e, carry_cut above x n (lower above y z) l))

pub place_cut : (above : Priority) (x n : ℕ) (l : List ℕ) → take n (place above x (take n l)) ≡ take n (place above x l)
unfolding place
place_cut above x zero l = refl
place_cut above x (suc n) [] = refl
place_cut above x (suc n) (y ∷ l) =
    by_cases (eqb y x) (λ e. rw (e, take-take n n l (omega arith))) (λ e. rw (e, carry_cut above x n y l))

pub list_cut : (policy : Policy) (k : ℕ) (past to : List ℕ) → list_after policy k past to ≡ take k (unlimited policy past to)
unfolding list_after unlimited step
list_cut policy k [] to = sym (take-nil {A = ℕ} k)
list_cut policy k (x ∷ past) to =
    rw (list_cut policy k past (x ∷ to), place_cut (policy past to) x k (unlimited policy past (x ∷ to)))

-- the first c of k places are the first c places of all
pub first_places : (policy : Policy) (c k : ℕ) (past to : List ℕ) → c ≤ k
    → take c (list_after policy k past to) ≡ take c (unlimited policy past to)
first_places policy c k past to h = rw (list_cut policy k past to, take-take c k (unlimited policy past to) h)
