-- What X3 is for: where the depths add up, hits and misses do too, in any memory. And they add up again after any reference.
use Rattle.std.specs.Prelude.{ℕ, zero, suc, ◌+◌, ◌≤◌, ◌<◌, min, true, ◌≡◌, refl, List, eqb, leb, length, take, get_or}
use Rattle.std.proofs.Common.{arith, ◌∙◌, ap, length-take}
use borrow.Author.Tests.{eqb-true, eqb-false, eq-eqb, lt-ltb}
use Rattle.rules.specs.Limits.{capacities, references, pages}
use Rattle.rules.specs.Cases.{by_cases}
use Rattle.theory.proofs.Depth.{depth_most}
use Rattle.kept.specs.Entries.{entry}
use Rattle.kept.specs.Tally.{bump, up_to}
use Rattle.run.specs.Referred.{rank_before, largest_count, depths_then}
use Rattle.run.specs.ReferredAll.{RunMemory, depth_then, memory_then}
use Rattle.session.specs.declared.Session.{Session}
use Rattle.session.specs.Lent.{Lent}
use Rattle.session.specs.AnyMemory.{as_run, after_reference, hits_in, misses_in}
use Rattle.session.specs.Tests.{total, adds_up, countable}
use Rattle.session.specs.TotalLaws.{total_one_more}
use Rattle.session.specs.TestLaws.{Fitting, fits_says, fits_after}
use Rattle.session.proofs.SoundLaws.{countable_fits}

total_grows : (table : List ℕ) (m n : ℕ) → m ≤ n → total table m ≤ total table n
unfolding total
total_grows table m zero h = rw (none m h) (omega arith)
  where
    none : (m : ℕ) → m ≤ 0 → m ≡ 0
    none m h = omega arith
total_grows table m (suc n) h =
    by_cases (eqb m (suc n)) (λ e. rw (eqb-true m (suc n) e) (omega arith))
    (λ e. omega (arith, total_grows table m n (omega (arith, eqb-false m (suc n) e))))

each_in_total : (table : List ℕ) (n i : ℕ) → i < n → get_or table i 0 ≤ total table n
unfolding total
each_in_total table n i h = omega (arith, total_grows table (suc i) n (omega arith))

-- the hits leave the misses out, which stand in place 0
hits_in_total : (table : List ℕ) (c : ℕ) → up_to table c ≤ total table (suc c)
unfolding up_to total
hits_in_total table zero = omega arith
hits_in_total table (suc c) = omega (arith, hits_in_total table c)

module _ (s : Session) (depths : List ℕ) (passed : countable s depths ≡ true) where
  adds_up_says : total depths (suc capacities) ≡ s.references
  unfolding adds_up
  adds_up_says = eqb-true (total depths (suc capacities)) s.references (countable_fits s depths passed).1

  -- A5, in any memory that passes the test
  pub hits_misses_in : (c : ℕ) → hits_in depths c + misses_in s depths c ≡ s.references
  hits_misses_in c =
      omega (
        arith,
        hits_in_total depths (min c capacities),
        total_grows depths (suc (min c capacities)) (suc capacities) (omega arith),
        adds_up_says,
      )

-- a depth is a place in use
depth_in_use : (policy page near : ℕ) (m : RunMemory) → depth_then policy page near m ≤ m.used
unfolding depth_then
depth_in_use policy page near m =
    omega (
      arith,
      depth_most 0 (entry (λ p. rank_before policy page near m.counts) page) (take m.used m.places),
      length-take m.used m.places,
    )

-- the depth came once more, and its count has room
one_more : (d : ℕ) (depths : List ℕ) → length depths ≡ suc capacities → d ≤ capacities
    → total depths (suc capacities) ≤ references
    → total (depths_then d depths) (suc capacities) ≡ total depths (suc capacities) + 1
unfolding depths_then bump
one_more d depths long inside few =
    let room : min (get_or depths d 0 + 1) largest_count ≡ get_or depths d 0 + 1 =
    omega (arith, each_in_total depths (suc capacities) d (omega arith)) in
    rw (lt-ltb d (suc capacities) (omega arith), room) (total_one_more d (suc capacities) depths long (omega arith))

pub countable_after : (m : Lent) (page : ℕ) → length m.depths ≡ suc capacities → countable m.value m.depths ≡ true
    → countable (after_reference m page).value (after_reference m page).depths ≡ true
countable_after m page long e =
    rw (fits_after m page (countable_fits m.value m.depths e).0) adds
  where
    f : Fitting m.value
    f = fits_says m.value (countable_fits m.value m.depths e).0

    sums : total m.depths (suc capacities) ≡ m.value.references
    sums = adds_up_says m.value m.depths e

    more : total (depths_then (depth_then m.value.policy page 0 (as_run m)) m.depths) (suc capacities)
        ≡ m.value.references + 1
    more =
        one_more (depth_then m.value.policy page 0 (as_run m)) m.depths long
        (omega (arith, depth_in_use m.value.policy page 0 (as_run m), f.inside, f.high)) (omega (arith, sums, f.few))
        ∙ ap (λ (n : ℕ). n + 1) sums

    adds : adds_up (after_reference m page).value (after_reference m page).depths ≡ true
    adds =
        unfold after_reference adds_up memory_then in
        by_cases (leb references m.value.references) (λ full. rw (full, sums, eq-eqb _ _ refl))
        (λ room. by_cases (leb pages page) (λ bad. rw (room, bad, sums, eq-eqb _ _ refl))
        (λ fine. rw (room, fine, more, eq-eqb _ _ refl)))
