-- A run kept in memory, reference by reference: one law takes it over a reference, for every policy. Whole traces and sessions
-- stand on it.
use Prim.Native.Nat.{ℕ, suc, ◌+◌, ◌≤◌, ◌<◌, min, max}
use native.Mathlib.Omega.{arith}
use Rattle.std.specs.Prelude.{◌≡◌, List, [], ◌∷◌, map, take, get_or, replicate}
use Rattle.std.proofs.Math.Path.{refl}
use Rattle.std.proofs.Common.{sym, ◌∙◌, ap, lt-ltb}
use Rattle.std.proofs.Math.ListN.{length}
use Rattle.rules.specs.Limits.{capacities, references, pages}
use Rattle.rules.specs.declared.Page.{Page}
use Rattle.theory.specs.Policy.{policy_of}
use Rattle.theory.specs.OnePass.{list_after, depth}
use Rattle.theory.proofs.Depth.{depth_most}
use Rattle.theory.proofs.Order.{policy_order}
use Rattle.theory.proofs.Theorem.{at_most}
use Rattle.kept.specs.Below.{Below, below_mono, list_below}
use Rattle.kept.specs.Entries.{entry, page_of}
use Rattle.kept.specs.EntryLaws.{pages_of_law}
use Rattle.kept.specs.Rankings.{ranking_of, shown_of}
use Rattle.kept.specs.Kept.{kept, kept_step, depth_entry}
use Rattle.kept.specs.KeptPolicies.{keeps}
use Rattle.kept.specs.Tally.{tally, bump, tally_most}
use Rattle.kept.specs.Memory.{length_after, padded, places_after, depths_after, Running}
use Rattle.kept.specs.MemoryLaws.{entries_length, length_most, padded_length, take_padded, padded_over, no_counts}
use Rattle.step.specs.declared.Step.{Step}
use Rattle.step.specs.Stepped.{Stepped, next}
use Rattle.run.specs.Referred.{depths_then, largest_count, Referred}
use Rattle.run.specs.ReferredAll.{RunMemory, depth_then, list_then, memory_then}
use Rattle.run.specs.RankLaws.{LooksAhead, rank_before_law, rank_then_law, counts_then_law}
use Rattle.step.specs.EntryLengths.{next_grows}
use Rattle.kept.specs.Shown.{shown_places, places_of, shown_all}

-- the pages of a run, as entries hold them
abbrev Fits : List ℕ → Type 0
Fits past = Below 65536 past

pub fits : (past : List ℕ) → Below pages past → Fits past
fits past h = below_mono pages 65536 past (omega arith) h

-- a run begins with nothing in its list and every depth at 0
pub run_start : (policy k : ℕ) (to : List ℕ) {counts : List ℕ} → counts ≡ replicate pages 0
    → Running policy k [] to 0 (replicate capacities 0) (replicate (suc capacities) 0) counts
unfolding length_after places_after padded depths_after kept list_after tally
run_start policy k to e = record { length_is = refl; places_are = refl; depths_are = refl; counts_are = e ∙ no_counts policy }

-- the list and the depth after a reference, in memory that holds the run's entries
module _ (policy k : ℕ) (low : 1 ≤ k) (high : k ≤ capacities) (page : ℕ) (past to : List ℕ) (fine : page < 65536)
    (good : Fits past) where
  abbrev now_entries : List ℕ
  now_entries = kept (ranking_of policy) (policy_of policy) k past (page ∷ to)

  abbrev then_entries : List ℕ
  then_entries = kept (ranking_of policy) (policy_of policy) k (page ∷ past) to

  abbrev old : ℕ
  old = entry (ranking_of policy past (page ∷ to)) page

  abbrev new : ℕ
  new = entry (ranking_of policy (page ∷ past) to) page

  abbrev used : ℕ
  used = length_after policy k past (page ∷ to)

  in_use : take used (padded now_entries) ≡ now_entries
  in_use = take_padded now_entries used (entries_length (ranking_of policy) policy k past (page ∷ to))

  next_is : next (shown_of policy) k old new used (padded now_entries) ≡ then_entries
  unfolding next
  next_is =
      let now-long : length now_entries ≤ k =
      omega (arith, entries_length (ranking_of policy) policy k past (page ∷ to), length_most policy k past (page ∷ to)) in
      let room : length (padded now_entries) ≡ capacities = padded_length now_entries (omega arith) in
      let cut : max (length now_entries) (min k (length (padded now_entries))) ≡ k = omega arith in
      rw (in_use, cut)
      (sym (kept_step (policy_of policy) (ranking_of policy) (shown_of policy) (keeps policy) k low page past to fine good))

  module _ {places' : List ℕ} {s : Step}
      (stepped : Stepped (shown_of policy) k old new used (padded now_entries) places' s) where
    pub depth_after_law : s.depth ≡ depth page (list_after (policy_of policy) k past (page ∷ to))
    unfolding kept
    depth_after_law =
        stepped.depth_is
        ∙ rw in_use
        (depth_entry (ranking_of policy past (page ∷ to)) 1 page (list_after (policy_of policy) k past (page ∷ to)) fine
        (list_below 65536 (policy_of policy) k past (page ∷ to) good))

    pub length_after_law : s.length ≡ length_after policy k (page ∷ past) to
    length_after_law = stepped.length_is ∙ ap length next_is ∙ entries_length (ranking_of policy) policy k (page ∷ past) to

    -- the list does not shrink, so what stands behind it is 0 as before
    pub places_after_law : places' ≡ padded then_entries
    places_after_law =
        let grown : length now_entries ≤ length then_entries =
        omega (arith, rw (in_use, next_is) at (next_grows (shown_of policy) k old new used (padded now_entries))) in
        let fitting : length then_entries ≤ capacities =
        omega (arith, entries_length (ranking_of policy) policy k (page ∷ past) to, length_most policy k (page ∷ past) to) in
        stepped.places ∙ rw next_is (padded_over now_entries then_entries grown fitting)

-- a depth that a run can have is counted, and once more fits
depths_after_law : (policy k d : ℕ) (past to : List ℕ) → d ≤ capacities → length past < references
    → depths_then d (depths_after policy k past to) ≡ bump d (depths_after policy k past to)
unfolding depths_then bump depths_after
depths_after_law policy k d past to h few =
    let table : List ℕ = tally (policy_of policy) k past to in
    let came : min (get_or table d 0 + 1) largest_count ≡ get_or table d 0 + 1 =
    omega (arith, tally_most (policy_of policy) k d past to) in
    rw (lt-ltb d (suc capacities) (omega arith), came)

module _ {policy k : ℕ} (low : 1 ≤ k) (high : k ≤ capacities) {page near next n : ℕ} {past to : List ℕ} (fine : page < pages)
    (good : Below pages past) (few : length past < references) (looks : LooksAhead policy near next page to)
    {places depths counts places' depths' counts' : List ℕ} {s : Step}
    (run : Running policy k past (page ∷ to) n places depths counts)
    (done : Referred policy page near next n k places depths counts places' depths' counts' s) where
  stepped : Stepped (shown_of policy) k
      (entry (ranking_of policy past (page ∷ to)) page) (entry (ranking_of policy (page ∷ past) to) page)
      (length_after policy k past (page ∷ to)) (places_after policy k past (page ∷ to)) places' s
  unfolding entry
  stepped =
      rw (
        ← run.length_is,
        ← run.places_are,
        ← rank_before_law policy page past to fine good near next looks,
        ← rank_then_law policy page past to fine good near next looks few,
        ← run.counts_are,
      ) done.tallied.stepped

  -- the depth that is answered is the depth in the list
  run_depth : s.depth ≡ depth page (list_after (policy_of policy) k past (page ∷ to))
  unfolding places_after
  run_depth = depth_after_law policy k low high page past to (omega arith) (fits past good) stepped

  -- and the memory is that of the run with one reference more
  run_next : Running policy k (page ∷ past) to s.length places' depths' counts'
  unfolding places_after
  run_next =
      let small : page < 65536 = omega arith in
      let shallow : s.depth ≤ capacities =
      omega (
        arith,
        run_depth,
        depth_most 0 page (list_after (policy_of policy) k past (page ∷ to)),
        at_most (policy_of policy) (policy_order policy) k past (page ∷ to),
      ) in
      record {
        length_is = length_after_law policy k low high page past to small (fits past good) stepped;
        places_are = places_after_law policy k low high page past to small (fits past good) stepped;
        depths_are =
            done.tallied.depths_are
            ∙ rw (run.depths_are, depths_after_law policy k s.depth past (page ∷ to) shallow few)
            (unfold depths_after tally in rw run_depth);
        counts_are = done.counts_are ∙ rw run.counts_are (counts_then_law policy page past to fine good few);
      }

-- the memory is that of a run
abbrev pub Runs : ℕ → ℕ → List ℕ → List ℕ → RunMemory → Type 0
Runs policy k past to m = Running policy k past to m.used m.places m.depths m.counts

-- the same of the definition: the depth that it says, and the memory that it leaves
module _ {policy k : ℕ} (low : 1 ≤ k) (high : k ≤ capacities) {page near next : ℕ} {past to : List ℕ} (fine : page < pages)
    (good : Below pages past) (few : length past < references) (looks : LooksAhead policy near next page to)
    {m : RunMemory} (run : Runs policy k past (page ∷ to) m) where
  abbrev after : RunMemory
  after = memory_then policy k page near next m

  referred : Referred policy page near next m.used k m.places m.depths m.counts
      after.places after.depths after.counts (record { depth = depth_then policy page near m; length = after.used })
  unfolding memory_then list_then depth_then
  referred =
      record {
        tallied = record { stepped = record { places = refl; depth_is = refl; length_is = refl }; depths_are = refl };
        counts_are = refl;
      }

  pub then_depth : depth_then policy page near m ≡ depth page (list_after (policy_of policy) k past (page ∷ to))
  then_depth = run_depth low high fine good few looks run referred

  pub then_runs : Runs policy k (page ∷ past) to (memory_then policy k page near next m)
  then_runs = run_next low high fine good few looks run referred

-- the list of a run is shown; this asks of the memory only what it looks at
pub run_shown : (policy k : ℕ) (past to : List ℕ) {n : ℕ} {places : List ℕ} {shown : List Page} → k ≤ capacities
    → Below pages past
    → n ≡ length_after policy k past to → places ≡ places_after policy k past to → shown ≡ shown_places n places
    → shown ≡ places_of (list_after (policy_of policy) k past to)
unfolding places_after kept
run_shown policy k past to {n} {places} high good length_is places_are e =
    let entries : List ℕ = kept (ranking_of policy) (policy_of policy) k past to in
    let long : length entries ≡ n = entries_length (ranking_of policy) policy k past to ∙ sym length_is in
    let inside : n ≤ capacities = omega (arith, length_most policy k past to) in
    let room : length places ≡ capacities = ap length places_are ∙ padded_length entries (omega arith) in
    let pages-are : map page_of (take n places) ≡ list_after (policy_of policy) k past to =
    rw (places_are, take_padded entries n long)
    (pages_of_law (ranking_of policy past to) (list_after (policy_of policy) k past to)
    (list_below 65536 (policy_of policy) k past to (fits past good))) in
    e ∙ shown_all n places inside room ∙ ap places_of pages-are
