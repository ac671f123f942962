-- Under LRU the list stands in the order of last references, so the carried page is always the higher one: carrying is a shift.
use Rattle.std.specs.Prelude.{ℕ, zero, suc, ◌≤◌, ◌<◌, true, ◌≡◌, eqb, length, take}
use Rattle.std.proofs.Common.{arith, sym}
use Rattle.std.proofs.Math.Path.{refl, ap}
use mathlib.Core.List.{List, [], ◌∷◌}
use borrow.Author.Tests.{eqb-true, eqb-false, eq-eqb, ne_eqb, lt-ltb}
use Rattle.theory.specs.Priority.{Priority}
use Rattle.theory.specs.Policy.{by_more, nearness, lru}
use Rattle.theory.proofs.PolicyWords.{nearness_most}
use Rattle.theory.specs.OnePass.{carry, place, step, list_after}
use Rattle.rules.specs.Cases.{by_cases}

-- the ranks fall from y down the list
abbrev pub Falling : (ℕ → ℕ) → ℕ → List ℕ → Type 0
Falling rank y [] = Unit
Falling rank y (z ∷ l) = (rank z < rank y) × Falling rank z l

abbrev pub Sorted : (ℕ → ℕ) → List ℕ → Type 0
Sorted rank [] = Unit
Sorted rank (y ∷ l) = Falling rank y l

falling_take : (rank : ℕ → ℕ) (k y : ℕ) (l : List ℕ) → Falling rank y l → Falling rank y (take k l)
falling_take rank zero y l h = tt
falling_take rank (suc k) y [] h = tt
falling_take rank (suc k) y (z ∷ l) h = (h.0, falling_take rank k z l h.1)

sorted_take : (rank : ℕ → ℕ) (k : ℕ) (l : List ℕ) → Sorted rank l → Sorted rank (take k l)
sorted_take rank zero l h = tt
sorted_take rank (suc k) [] h = tt
sorted_take rank (suc k) (y ∷ l) h = falling_take rank k y l h

nearness_first : (x : ℕ) (past : List ℕ) → nearness x (x ∷ past) ≡ suc (length past)
unfolding nearness
nearness_first x past = rw (eq-eqb x x refl)

pub nearness_other : (p x : ℕ) (past : List ℕ) → (p ≡ x → ⊥) → nearness p (x ∷ past) ≡ nearness p past
unfolding nearness
nearness_other p x past n = rw (ne_eqb x p (λ q. n (sym q)))

module _ (past : List ℕ) (shift : Priority) (shifts : (y z : ℕ) → shift y z ≡ true) where
  carry_shift : (to : List ℕ) (x y : ℕ) (l : List ℕ) → Falling (λ p. nearness p past) y l
      → carry (lru past to) x y l ≡ carry shift x y l
  unfolding carry lru by_more
  carry_shift to x y [] h = refl
  carry_shift to x y (z ∷ l) h =
      by_cases (eqb z x) (λ e. rw e)
      (λ e. rw (e, lt-ltb (nearness z past) (nearness y past) h.0, shifts y z, carry_shift to x z l h.1))

  pub place_shift : (to : List ℕ) (x : ℕ) (l : List ℕ) → Sorted (λ p. nearness p past) l
      → place (lru past to) x l ≡ place shift x l
  unfolding place
  place_shift to x [] h = refl
  place_shift to x (y ∷ l) h = by_cases (eqb y x) (λ e. rw e) (λ e. rw (e, carry_shift to x y l h))

  -- what stands behind x falls as before: x is not among it
  behind : (x b c : ℕ) (l : List ℕ) → Falling (λ p. nearness p past) b l → nearness b past ≤ nearness x past
      → nearness b past ≤ nearness c (x ∷ past) → Falling (λ p. nearness p (x ∷ past)) c l
  behind x b c [] h hx hc = tt
  behind x b c (w ∷ l) h hx hc =
      let other : nearness w (x ∷ past) ≡ nearness w past =
      nearness_other w x past (λ q. omega (arith, ap (λ (p : ℕ). nearness p past) q, h.0)) in
      (omega (arith, h.0), behind x w w l h.1 (omega (arith, h.0)) (omega arith))

  carry_falls : (x c y : ℕ) (l : List ℕ) → (y ≡ x → ⊥) → Falling (λ p. nearness p past) y l
      → nearness y past < nearness c (x ∷ past) → Falling (λ p. nearness p (x ∷ past)) c (carry shift x y l)
  unfolding carry
  carry_falls x c y [] ny h hc = (omega (arith, nearness_other y x past ny), tt)
  carry_falls x c y (z ∷ l) ny h hc =
      by_cases (eqb z x)
      (λ e. rw e (
        omega (arith, nearness_other y x past ny),
        behind x z y l h.1 (omega (arith, ap (λ (p : ℕ). nearness p past) (eqb-true z x e)))
            (omega (arith, h.0, nearness_other y x past ny)),
      ))
      (λ e. rw (e, shifts y z) (
        omega (arith, nearness_other y x past ny),
        carry_falls x y z l (eqb-false z x e) h.1 (omega (arith, h.0, nearness_other y x past ny)),
      ))

  place_sorted : (x : ℕ) (l : List ℕ) → Sorted (λ p. nearness p past) l → Sorted (λ p. nearness p (x ∷ past)) (place shift x l)
  unfolding place
  place_sorted x [] h = tt
  place_sorted x (y ∷ l) h =
      by_cases (eqb y x)
      (λ e. rw e (behind x y y l h (omega (arith, ap (λ (p : ℕ). nearness p past) (eqb-true y x e)))
      (omega (arith, ap (λ (p : ℕ). nearness p (x ∷ past)) (eqb-true y x e), nearness_first x past, nearness_most y past))))
      (λ e. rw e (carry_falls x x y l (eqb-false y x e) h (omega (arith, nearness_first x past, nearness_most y past))))

pub list_sorted : (k : ℕ) (past to : List ℕ) → Sorted (λ p. nearness p past) (list_after lru k past to)
unfolding list_after step
list_sorted k [] to = tt
list_sorted k (x ∷ past) to =
    sorted_take (λ p. nearness p (x ∷ past)) k (place (lru past to) x (list_after lru k past (x ∷ to)))
    (rw (place_shift past (λ y z. true) (λ y z. refl) to x (list_after lru k past (x ∷ to)) (list_sorted k past (x ∷ to)))
    (place_sorted past (λ y z. true) (λ y z. refl) x (list_after lru k past (x ∷ to)) (list_sorted k past (x ∷ to))))
