-- The page of lowest priority of a bag is one page only: the single place where the laws of an order are used.
use Rattle.std.specs.Prelude.{ℕ, ◌≡◌, refl, eqb}
use Rattle.std.proofs.Common.{◌∙◌, eqb-true, eq-eqb}
use Rattle.std.proofs.Math.Bool.{true, false}
use Rattle.std.proofs.Math.Path.{sym}
use mathlib.Core.List.{List, [], ◌∷◌}
use Rattle.std.proofs.lemmas.Bool.{eqb-false}
use Rattle.rules.specs.Lists.{holds}
use Rattle.theory.specs.Priority.{Priority, Order}
use Rattle.theory.specs.Plain.{lowest}
use Rattle.theory.proofs.Bags.{Same, same_holds}
use Rattle.rules.specs.Cases.{by_cases, clash}

-- m is in l, and every other page of l is above it
pub record Lowest (above : Priority) (m : ℕ) (l : List ℕ) : Type 0 where
  pub there : holds m l ≡ true
  pub rest : (p : ℕ) → holds p l ≡ true → (p ≡ m → ⊥) → above p m ≡ true

holds_head : (p z : ℕ) (l : List ℕ) → z ≡ p → holds p (z ∷ l) ≡ true
unfolding holds
holds_head p z l e = rw (eq-eqb z p e)

holds_tail : (p z : ℕ) (l : List ℕ) → holds p l ≡ true → holds p (z ∷ l) ≡ true
unfolding holds
holds_tail p z l h = by_cases (eqb z p) (λ e. rw e) (λ e. rw e h)

-- a page of z ∷ l is z or a page of l
holds_split : {A : Type 0} (p z : ℕ) (l : List ℕ) → holds p (z ∷ l) ≡ true → (z ≡ p → A) → (holds p l ≡ true → A) → A
unfolding holds
holds_split p z l h first later = by_cases (eqb z p) (λ e. first (eqb-true z p e)) (λ e. later (rw e at h))

module _ (above : Priority) (o : Order above) where
  -- of two lowest pages each would be above the other
  pub lowest_unique : {m n : ℕ} {l k : List ℕ} → Lowest above m l → Lowest above n k → Same l k → m ≡ n
  lowest_unique {m} {n} {l} {k} a b s =
      by_cases (eqb m n) (λ e. eqb-true m n e)
      (λ e. let d : m ≡ n → ⊥ = eqb-false m n e in
      clash (a.rest n (same_holds n s ∙ b.there) (λ q. d (sym q)))
      (o.asymmetric m n (b.rest m (sym (same_holds m s) ∙ a.there) d)))

  -- a page h that is above some page w of l, or is w, may join l
  joined : {m : ℕ} (h w : ℕ) {l : List ℕ} (k : List ℕ) → Lowest above m l → holds w l ≡ true → ((h ≡ w → ⊥) → above h w ≡ true)
      → ((p : ℕ) → holds p l ≡ true → holds p k ≡ true)
      → ((p : ℕ) → holds p k ≡ true → (holds p l ≡ false) → p ≡ h) → Lowest above m k
  joined {m} h w {l} k a wl hw up new =
      record {
        there = up m a.there;
        rest = λ p pk n. by_cases (holds p l) (λ pl. a.rest p pl n) (λ out. newcomer p out n (new p pk out));
      }
    where
      over : (p : ℕ) → above p w ≡ true → above p m ≡ true
      over p pw =
          by_cases (eqb w m) (λ e. rw (eqb-true w m e) at pw)
          (λ e. o.transitive p w m pw (a.rest w wl (eqb-false w m e)))

      newcomer : (p : ℕ) → holds p l ≡ false → (p ≡ m → ⊥) → p ≡ h → above p m ≡ true
      newcomer p out n e = over p (rw e (hw (λ q. clash (rw (← q, ← e) at wl) out)))

  pub lowest_is : (y : ℕ) (l : List ℕ) → Lowest above (lowest above y l) (y ∷ l)
  unfolding lowest holds
  lowest_is y [] =
      record {
        there = holds_head y y [] refl;
        rest = λ p h n. holds_split p y [] h (λ e. absurd (n (sym e))) (λ k. clash k refl);
      }
  lowest_is y (z ∷ l) =
      by_cases (above y z)
      (λ e. rw e (joined y z (y ∷ z ∷ l) (lowest_is z l) (holds_head z z l refl) (λ n. e) (λ p h. holds_tail p y (z ∷ l) h)
      (λ p h out. holds_split p y (z ∷ l) h (λ q. sym q) (λ k. clash k out))))
      (λ e. rw e (joined z y (y ∷ z ∷ l) (lowest_is y l) (holds_head y y l refl) (λ n. o.total y z e (λ q. n (sym q)))
      (λ p h. holds_split p y l h (λ q. holds_head p y (z ∷ l) q) (λ k. holds_tail p y (z ∷ l) (holds_tail p z l k)))
      (λ p h out. swapped p h out)))
    where
      swapped : (p : ℕ) → holds p (y ∷ z ∷ l) ≡ true → holds p (y ∷ l) ≡ false → p ≡ z
      swapped p h out =
          holds_split p y (z ∷ l) h (λ q. clash (holds_head p y l q) out)
          (λ k. holds_split p z l k (λ q. sym q) (λ j. clash (holds_tail p y l j) out))
