-- What one reference does to the first n places of the list, told by what leaves them (Mattson 1970, equations 12 to 18).
-- `leaves` names the page that leaves: the referenced page where it is found, the lowest where the places are full,
-- nothing where there is room. One equation of sums then serves hits and misses alike and needs no law of the order.
use Prim.Native.Nat.{ℕ, zero, suc, ◌+◌, ◌≤◌, ◌<◌}
use native.Mathlib.Omega.{arith}
use Rattle.std.specs.Prelude.{cond, ◌≡◌, eqb, length, take}
use Rattle.std.proofs.Math.Bool.{true, false}
use Rattle.std.proofs.Math.Path.{refl}
use mathlib.Core.List.{List, [], ◌∷◌}
use Rattle.std.proofs.Math.Seq.{take-nil}
use borrow.Author.Tests.{eqb-true}
use Rattle.rules.specs.Lists.{holds}
use Rattle.theory.specs.Priority.{Priority, lower}
use Rattle.theory.specs.Plain.{lowest}
use Rattle.theory.specs.OnePass.{carry, place}
use Rattle.theory.proofs.Bags.{sum}
use Rattle.rules.specs.Cases.{by_cases, clash}

module _ (above : Priority) (x : ℕ) where
  -- what leaves the first n places of l when y is carried into them
  unfoldable pub leaves : ℕ → ℕ → List ℕ → List ℕ
  leaves zero y l = y ∷ []
  leaves (suc n) y [] = []
  leaves (suc n) y (z ∷ l) = cond (eqb z x) (x ∷ []) (leaves n (lower above y z) l)

  pub carry_sum : (f : ℕ → ℕ) (n y : ℕ) (l : List ℕ)
      → sum f (take n (carry above x y l)) + sum f (leaves n y l) ≡ f y + sum f (take n l)
  unfolding sum carry leaves
  carry_sum f zero y l = omega arith
  carry_sum f (suc n) y [] = rw (take-nil {A = ℕ} n) (omega arith)
  carry_sum f (suc n) y (z ∷ l) =
      by_cases (eqb z x) (λ e. rw (e, eqb-true z x e) (omega arith))
      (λ e. rw e (by_cases (above y z) (λ a. rw a (omega (arith, carry_sum f n z l)))
      (λ a. rw a (omega (arith, carry_sum f n y l)))))

  pub leaves_found : (n y : ℕ) (l : List ℕ) → holds x (take n l) ≡ true → leaves n y l ≡ x ∷ []
  unfolding leaves holds
  leaves_found zero y l h = clash h refl
  leaves_found (suc n) y [] h = clash h refl
  leaves_found (suc n) y (z ∷ l) h =
      by_cases (eqb z x) (λ e. rw e) (λ e. rw e (leaves_found n (lower above y z) l (rw e at h)))

  pub leaves_full : (n y : ℕ) (l : List ℕ) → holds x (take n l) ≡ false → n ≤ length l
      → leaves n y l ≡ lowest above y (take n l) ∷ []
  unfolding leaves holds lowest
  leaves_full zero y l h f = refl
  leaves_full (suc n) y [] h f = absurd (omega arith)
  leaves_full (suc n) y (z ∷ l) h f =
      by_cases (eqb z x) (λ e. clash refl (rw e at h))
      (λ e. rw e (leaves_full n (lower above y z) l (rw e at h) (omega arith)))

  pub leaves_room : (n y : ℕ) (l : List ℕ) → holds x (take n l) ≡ false → length l < n → leaves n y l ≡ []
  unfolding leaves holds
  leaves_room zero y l h f = absurd (omega arith)
  leaves_room (suc n) y [] h f = refl
  leaves_room (suc n) y (z ∷ l) h f =
      by_cases (eqb z x) (λ e. clash refl (rw e at h))
      (λ e. rw e (leaves_room n (lower above y z) l (rw e at h) (omega arith)))

  -- a page that is found in the first places leaves and enters them: they hold what they held
  pub place_found : (f : ℕ → ℕ) (n : ℕ) (l : List ℕ) → holds x (take (suc n) l) ≡ true
      → sum f (take (suc n) (place above x l)) ≡ sum f (take (suc n) l)
  unfolding sum place holds
  place_found f n [] h = clash h refl
  place_found f n (y ∷ l) h =
      by_cases (eqb y x) (λ e. rw e) (λ e. rw e (found (rw e at h)))
    where
      found : holds x (take n l) ≡ true → f x + sum f (take n (carry above x y l)) ≡ f y + sum f (take n l)
      found k = omega (arith, rw (leaves_found n y l k) at (carry_sum f n y l))

  -- where the first places are full, the lowest leaves
  pub place_full : (f : ℕ → ℕ) (n y : ℕ) (l : List ℕ) → holds x (take (suc n) (y ∷ l)) ≡ false → n ≤ length l
      → sum f (take (suc n) (place above x (y ∷ l))) + f (lowest above y (take n l)) ≡ f x + sum f (take (suc n) (y ∷ l))
  unfolding sum place holds
  place_full f n y l h full =
      by_cases (eqb y x) (λ e. clash refl (rw e at h)) (λ e. rw e (out (rw e at h)))
    where
      out : holds x (take n l) ≡ false
          → f x + sum f (take n (carry above x y l)) + f (lowest above y (take n l)) ≡ f x + (f y + sum f (take n l))
      out k = omega (arith, rw (leaves_full n y l k full) at (carry_sum f n y l))

  -- where there is room, nothing leaves
  pub place_room : (f : ℕ → ℕ) (n : ℕ) (l : List ℕ) → holds x (take (suc n) l) ≡ false → length l ≤ n
      → sum f (take (suc n) (place above x l)) ≡ f x + sum f (take (suc n) l)
  unfolding sum place holds
  place_room f n [] h room = rw (take-nil {A = ℕ} n)
  place_room f n (y ∷ l) h room =
      by_cases (eqb y x) (λ e. clash refl (rw e at h)) (λ e. rw e (in_room (rw e at h)))
    where
      in_room : holds x (take n l) ≡ false → f x + sum f (take n (carry above x y l)) ≡ f x + (f y + sum f (take n l))
      in_room k = omega (arith, rw (leaves_room n y l k room) at (carry_sum f n y l))
