-- What the tests say, and that every session passes them: memory that a start and calls gave, and again after a reference.
use Rattle.std.specs.Prelude.{ℕ, ◌≤◌, ◌<◌, true, ◌≡◌, leb, ltb, length}
use Rattle.std.proofs.Common.{arith, length-take}
use Rattle.std.proofs.Math.Path.{refl}
use mathlib.Core.List.{List, []}
use borrow.Author.Tests.{le-leb, lt-ltb, leb-true, leb-false, ltb-true, eq-eqb}
use Rattle.rules.specs.Limits.{capacities, references, pages, opt, is_capacity}
use Rattle.rules.specs.Cases.{by_cases, and_left, and_right}
use Rattle.theory.specs.Policy.{policy_of}
use Rattle.theory.proofs.Order.{policy_order}
use Rattle.theory.proofs.Theorem.{at_most}
use Rattle.kept.specs.Memory.{depths_after}
use Rattle.run.specs.ReferredAll.{RunMemory, list_then, memory_then}
use Rattle.step.specs.Stepped.{next}
use Rattle.session.specs.declared.Session.{Session}
use Rattle.session.specs.History.{accepted_of}
use Rattle.session.specs.Lent.{Lent}
use Rattle.session.specs.Memory.{Value, Depths}
use Rattle.session.specs.AnyMemory.{as_run, after_reference}
use Rattle.session.specs.Tests.{fits, adds_up, countable}
use Rattle.session.specs.ReferLaws.{start_bounds, accepted_few}
use Rattle.session.specs.TotalLaws.{tally_total}

-- X2, number by number
pub record Fitting (s : Session) : Type 0 where
  pub session : s.policy < opt
  pub low : 1 ≤ s.k
  pub high : s.k ≤ capacities
  pub inside : s.length ≤ s.k
  pub few : s.references ≤ references

pub fits_says : (s : Session) → fits s ≡ true → Fitting s
unfolding fits
fits_says s e =
    let others = and_right (ltb s.policy opt) _ e in
    let range = and_left (is_capacity s.k) _ others in
    let counts = and_right (is_capacity s.k) _ others in
    record {
      session = ltb-true s.policy opt (and_left _ _ e);
      low = leb-true 1 s.k (and_left _ _ range);
      high = leb-true s.k capacities (and_right (leb 1 s.k) _ range);
      inside = leb-true s.length s.k (and_left _ _ counts);
      few = leb-true s.references references (and_right (leb s.length s.k) _ counts);
    }

pub fits_if : {s : Session} → Fitting s → fits s ≡ true
unfolding fits
fits_if {s} f =
    rw (
      lt-ltb s.policy opt f.session,
      le-leb 1 s.k f.low,
      le-leb s.k capacities f.high,
      le-leb s.length s.k f.inside,
      le-leb s.references references f.few,
    )

module _ {policy k : ℕ} {calls : List ℕ} {s : Session} (v : Value policy k calls s) where
  -- so that 40 is never given to a caller who kept the rules
  pub value_fits : fits s ≡ true
  value_fits =
      let b = start_bounds policy k v.started in
      fits_if
      (record {
        session = omega (arith, v.policy_is, b.session);
        low = omega (arith, v.k_is, b.low);
        high = omega (arith, v.k_is, b.high);
        inside = omega (arith, v.k_is, v.length_is, at_most (policy_of policy) (policy_order policy) k (accepted_of calls) []);
        few = omega (arith, v.references_are, accepted_few calls);
      })

  pub depths_add_up : {depths : List ℕ} → Depths policy k calls depths → adds_up s depths ≡ true
  unfolding adds_up depths_after
  depths_add_up d =
      let b = start_bounds policy k v.started in
      rw (
        d.depths_are,
        v.references_are,
        tally_total (policy_of policy) (policy_order policy) k b.high (accepted_of calls) [],
        eq-eqb (length (accepted_of calls)) (length (accepted_of calls)) refl,
      )

  pub value_countable : {depths : List ℕ} → Depths policy k calls depths → countable s depths ≡ true
  value_countable d = rw (value_fits, depths_add_up d)

-- no more places are in use after a reference than K, if no more were before
used_most : (policy k page near ahead : ℕ) (m : RunMemory) → m.used ≤ k → (memory_then policy k page near ahead m).used ≤ k
unfolding memory_then list_then next
used_most policy k page near ahead m h =
    simp length-take (omega arith)

-- and again after any reference, in any memory
pub fits_after : (m : Lent) (page : ℕ) → fits m.value ≡ true → fits (after_reference m page).value ≡ true
unfolding after_reference
fits_after m page e =
    let f = fits_says m.value e in
    by_cases (leb references m.value.references) (λ full. rw full e)
    (λ room. by_cases (leb pages page) (λ bad. rw (room, bad) e)
    (λ fine. rw (room, fine)
    (fits_if
    (record {
      session = f.session;
      low = f.low;
      high = f.high;
      inside = used_most m.value.policy m.value.k page 0 0 (as_run m) f.inside;
      few = omega (arith, leb-false references m.value.references room);
    }))))
