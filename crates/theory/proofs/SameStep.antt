-- One reference takes the first c places of the list and a plain cache of c frames from the same pages to the same pages,
-- under any priority that is an order.
use Rattle.std.specs.Prelude.{ℕ, suc, ◌+◌, ◌≤◌, true, false, ◌≡◌, refl, List, [], ◌∷◌, eqb, take}
use native.Mathlib.Omega.{arith}
use Rattle.std.proofs.Common.{◌∙◌}
use Rattle.std.proofs.Math.ListN.{length, length-take}
use borrow.Author.Tests.{eqb-true, eqb-false, eq-eqb, ne_eqb}
use Rattle.rules.specs.Lists.{holds, without}
use Rattle.theory.specs.Priority.{Priority, Order}
use Rattle.theory.specs.Plain.{lowest, evict, refer}
use Rattle.theory.specs.OnePass.{place}
use Rattle.theory.proofs.Bags.{Same, sum, same_holds, same_length}
use Rattle.theory.proofs.Lowest.{lowest_is, lowest_unique}
use Rattle.theory.proofs.Carry.{place_found, place_full, place_room}
use Rattle.rules.specs.Cases.{by_cases, clash}

-- taking a held page out takes its weight out
without_sum : (f : ℕ → ℕ) (p : ℕ) (l : List ℕ) → holds p l ≡ true → sum f (without p l) + f p ≡ sum f l
unfolding sum without holds
without_sum f p [] h = clash h refl
without_sum f p (z ∷ l) h =
    by_cases (eqb z p) (λ e. rw (e, eqb-true z p e) (omega arith))
    (λ e. rw e (omega (arith, without_sum f p l (rw e at h))))

module _ (above : Priority) (o : Order above) (c x : ℕ) where
  -- on a hit neither changes what it holds
  same_hit : (l s : List ℕ) → Same (take (suc c) l) s → holds x s ≡ true
      → Same (take (suc c) (place above x l)) (refer above (suc c) x s)
  unfolding refer
  same_hit l s i h = record { sums = λ f. rw h (place_found above x f c l (same_holds x i ∙ h) ∙ i.sums f) }

  -- on a miss with room both take the page in
  same_room : (l s : List ℕ) → Same (take (suc c) l) s → holds x s ≡ false → (length s ≡ suc c → ⊥)
      → Same (take (suc c) (place above x l)) (refer above (suc c) x s)
  unfolding refer sum
  same_room l s i h n =
      let few : length l ≤ c = omega (arith, same_length i, length-take (suc c) l, n) in
      record {
        sums =
            λ f. rw (h, ne_eqb (length s) (suc c) n)
            (omega (arith, place_room above x f c l (same_holds x i ∙ h) few, i.sums f));
      }

  -- on a miss with no room both lose the same page: the lowest of one bag
  same_full : (u : ℕ) (m : List ℕ) (y : ℕ) (t : List ℕ) → Same (take (suc c) (u ∷ m)) (y ∷ t) → holds x (y ∷ t) ≡ false
      → length (y ∷ t) ≡ suc c → Same (take (suc c) (place above x (u ∷ m))) (refer above (suc c) x (y ∷ t))
  unfolding refer evict sum
  same_full u m y t i h full =
      let many : c ≤ length m = omega (arith, same_length i, length-take c m) in
      let low : lowest above u (take c m) ≡ lowest above y t =
      lowest_unique above o (lowest_is above o u (take c m)) (lowest_is above o y t) i in
      record {
        sums =
            λ f. rw (h, eq-eqb (length (y ∷ t)) (suc c) full)
            (omega (
              arith,
              i.sums f,
              rw low at (place_full above x f c u m (same_holds x i ∙ h) many),
              without_sum f (lowest above y t) (y ∷ t) (lowest_is above o y t).there,
            ));
      }

  full_lists : (l s : List ℕ) → Same (take (suc c) l) s → holds x s ≡ false → length s ≡ suc c
      → Same (take (suc c) (place above x l)) (refer above (suc c) x s)
  full_lists [] s i h full = absurd (omega (arith, same_length i))
  full_lists (u ∷ m) [] i h full = absurd (omega arith)
  full_lists (u ∷ m) (y ∷ t) i h full = same_full u m y t i h full

  -- one reference keeps the first places and the plain cache the same
  pub same_step : (l s : List ℕ) → Same (take (suc c) l) s
      → Same (take (suc c) (place above x l)) (refer above (suc c) x s)
  same_step l s i =
      by_cases (holds x s) (same_hit l s i)
      (λ h. by_cases (eqb (length s) (suc c)) (λ e. full_lists l s i h (eqb-true (length s) (suc c) e))
      (λ e. same_room l s i h (eqb-false (length s) (suc c) e)))
