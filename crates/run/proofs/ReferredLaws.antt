-- A reference by the policy's number: one law for LRU, which asks for no rank, and one for the policies that do; and
-- references one after the other.
use Prim.Native.Nat.{ℕ, ◌+◌, ◌-◌}
use native.Mathlib.Omega.{arith}
use native.Mathlib.Numerals.{add-one}
use mathlib.Core.Path.{◌≡◌, refl, ◌∙◌, ap}
use mathlib.Core.List.{List}
use mathlib.Core.Bool.{false}
use lib.Dec.{eqb}
use lib.ListN.{length, get_or}
use borrow.Author.Tests.{ne_eqb}
use Rattle.rules.specs.Limits.{lru, lfu}
use Rattle.rules.specs.Cases.{by_cases}
use Rattle.rules.specs.Policies.{policy_number, PolicyOf}
use Rattle.rules.specs.declared.policy.Policy.{Policy}
use Rattle.rules.specs.declared.policy.Policy.TheVariants.{Lru, Lfu, Opt}
use Rattle.rules.specs.declared.refusal.Refusal.{Refusal}
use Rattle.std.specs.Prelude.{Result, Ok, Err, ◌⊎◌}
use Rattle.std.proofs.Common.{inl, inr}
use Rattle.std.specs.Result.{result_unwrap_or}
use Rattle.kept.specs.Entries.{entry, always, larger}
use Rattle.kept.specs.Rankings.{shown_of}
use Rattle.step.specs.declared.Step.{Step}
use Rattle.step.specs.Stepped.{Stepped}
use Rattle.run.specs.declared.reference.Ranks.{Ranks}
use Rattle.run.specs.Referred.{
  rank_now,
  rank_next,
  rank_before,
  rank_then,
  counts_kept,
  counts_then,
  count_in,
  count_stored,
  one_more,
  depths_then,
  Ranking,
  Tallied,
  Ranked,
  Referred,
}
use Rattle.run.specs.ReferredAll.{RunMemory, run_memory, ReferredAll}
use Rattle.run.specs.ReferredAll.{depth_then, list_then, memory_then, memory_after, depth_after}

-- what LFU keeps is its count, and one more
kept_is : (policy page near next : ℕ) (counts : List ℕ)
    → counts_kept policy page (rank_next policy (rank_now policy page near counts) next) counts ≡ counts_then policy page counts
unfolding counts_kept counts_then rank_next rank_now
kept_is policy page near next counts = by_cases (eqb policy lfu) (λ e. rw e) (λ e. rw e)

-- LFU looks the count up and keeps one more; OPT was told
pub ranking_counted : {page near next count more : ℕ} {counts counts' : List ℕ} → count ≡ count_in counts page
    → more ≡ one_more count → counts' ≡ count_stored page more counts
    → Ranking lfu page near next counts counts' (record { now = count; then = more })
unfolding rank_now rank_next counts_kept
ranking_counted count-is more-is kept = record { now_is = count-is; then_is = more-is; counts_are = kept }

pub ranking_told : {policy page near next : ℕ} {counts : List ℕ} → eqb policy lfu ≡ false
    → Ranking policy page near next counts counts (record { now = near; then = next })
unfolding rank_now rank_next counts_kept
ranking_told other = record { now_is = rw other; then_is = rw other; counts_are = rw other }

pub referred_lru : {page near next n k : ℕ} {places depths counts places' depths' : List ℕ} {r : Step}
    → Tallied always k (entry (λ p. 0) page) (entry (λ p. 0) page) n places depths places' depths' r
    → Referred lru page near next n k places depths counts places' depths' counts r
unfolding shown_of rank_before rank_then counts_then
referred_lru t = record { tallied = t; counts_are = refl }

module _ {policy page near next n k : ℕ} {places depths counts places' depths' : List ℕ} {r : Step} where
  pub ranked : {ranks : Ranks} {old new : ℕ} {counts' : List ℕ} → Ranking policy page near next counts counts' ranks
      → old ≡ entry (λ p. ranks.now) page → new ≡ entry (λ p. ranks.then) page
      → Stepped larger k old new n places places' r → depths' ≡ depths_then r.depth depths
      → Ranked policy page near next n k places depths counts places' depths' counts' r
  ranked looked old-is New-is s d =
      record {
        tallied = record {
          stepped = rw (← looked.now_is, ← looked.then_is) (rw (old-is, New-is) at s);
          depths_are = d;
        };
        counts_are = rw (← looked.now_is, ← looked.then_is) looked.counts_are;
      }

  pub referred_ranked : {counts' : List ℕ} → eqb policy lru ≡ false
      → Ranked policy page near next n k places depths counts places' depths' counts' r
      → Referred policy page near next n k places depths counts places' depths' counts' r
  unfolding shown_of rank_before rank_then
  referred_ranked other t =
      record { tallied = rw other t.tallied; counts_are = t.counts_are ∙ kept_is policy page near next counts }

-- the other policies
pub not_lru : {p : Policy} → (p ≡ Lfu) ⊎ (p ≡ Opt) → eqb (policy_number p) lru ≡ false
not_lru (inl e) = rw e
not_lru (inr e) = rw e

pub not_lfu : {p : Policy} → (p ≡ Lru) ⊎ (p ≡ Opt) → eqb (policy_number p) lfu ≡ false
not_lfu (inl e) = rw e
not_lfu (inr e) = rw e

-- a number and the policy that it is taken as: the tests for LRU and LFU say the same of both
pub record TakenAs (number : ℕ) (policy : Policy) : Type 0 where
  pub lru_is : eqb number lru ≡ eqb (policy_number policy) lru
  pub lfu_is : eqb number lfu ≡ eqb (policy_number policy) lfu

pub taken_as : (number : ℕ) (r : Result Policy Refusal) → PolicyOf number r → TakenAs number (result_unwrap_or r Opt)
taken_as number (Ok policy) is = record { lru_is = rw is; lfu_is = rw is }
taken_as number (Err r) none =
    record {
      lru_is = ne_eqb number lru (λ q. omega (arith, q, none.1));
      lfu_is = ne_eqb number lfu (λ q. omega (arith, q, none.1));
    }

pub taken_by : (number : ℕ) (r : Result Policy Refusal) (policy : Policy) → PolicyOf number r → policy ≡ result_unwrap_or r Opt
    → TakenAs number policy
taken_by number r policy told e = rw e (taken_as number r told)

pub referred_as : {number page near next n k : ℕ} {places depths counts places' depths' counts' : List ℕ} {r : Step}
    {policy : Policy} → TakenAs number policy
    → Referred (policy_number policy) page near next n k places depths counts places' depths' counts' r
    → Referred number page near next n k places depths counts places' depths' counts' r
unfolding shown_of rank_before rank_now rank_then rank_next counts_then
referred_as taken done =
    record { tallied = rw (taken.lru_is, taken.lfu_is) done.tallied; counts_are = rw taken.lfu_is done.counts_are }

module _ {policy page near ahead n k : ℕ} {places depths counts places' depths' counts' : List ℕ} {s : Step}
    (done : Referred policy page near ahead n k places depths counts places' depths' counts' s) where
  -- a reference makes of the memory what the definition says
  memory_then_law : run_memory s.length places' depths' counts'
      ≡ memory_then policy k page near ahead (run_memory n places depths counts)
  unfolding memory_then list_then depth_then
  memory_then_law =
      let stepped = done.tallied.stepped in
      let depths_are = done.tallied.depths_are ∙ ap (λ (d : ℕ). depths_then d depths) stepped.depth_is in
      λ i. record {
        used = stepped.length_is i;
        places = stepped.places i;
        depths = depths_are i;
        counts = done.counts_are i;
      }

  depth_then_law : s.depth ≡ depth_then policy page near (run_memory n places depths counts)
  unfolding depth_then
  depth_then_law = done.tallied.stepped.depth_is

-- i references are done
pub record Done (policy k : ℕ) (pages nexts : List ℕ) (left : ℕ) (m : RunMemory) (i d : ℕ) (now : RunMemory) : Type 0 where
  pub memory : now ≡ memory_after policy k pages nexts left m i
  pub depth : d ≡ depth_after policy k pages nexts left m i

pub none_done : {policy k left : ℕ} {pages nexts : List ℕ} {m : RunMemory} → Done policy k pages nexts left m 0 0 m
unfolding memory_after depth_after
none_done = record { memory = refl; depth = refl }

pub one_done : {policy k left i d n page near ahead : ℕ} {pages nexts places depths counts places' depths' counts' : List ℕ}
    {m : RunMemory} {s : Step} → Done policy k pages nexts left m i d (run_memory n places depths counts)
    → page ≡ get_or pages i 0 → near ≡ left - i → ahead ≡ get_or nexts i 0
    → Referred policy page near ahead n k places depths counts places' depths' counts' s
    → Done policy k pages nexts left m (i + 1) s.depth (run_memory s.length places' depths' counts')
unfolding memory_after depth_after
one_done {i = i} before page_is near_is ahead-is done =
    rw (add-one i) (record {
      memory = memory_then_law done ∙ rw (page_is, near_is, ahead-is, before.memory);
      depth = depth_then_law done ∙ rw (page_is, near_is, before.memory);
    })

pub all_done : {policy k left i d : ℕ} {pages nexts : List ℕ} {m now : RunMemory} → Done policy k pages nexts left m i d now
    → i ≡ length pages → ReferredAll policy k pages nexts left m now d
all_done done end = record { memory_is = rw end at done.memory; depth_is = rw end at done.depth }
