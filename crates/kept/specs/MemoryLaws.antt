-- Laws of what code keeps of a run: what stands behind a list in memory, and what a run under LRU or LFU does not depend on.
use Rattle.std.specs.Prelude.{ℕ, zero, suc, ◌+◌, ◌-◌, ◌≤◌, ◌<◌, ◌≡◌, List, [], ◌++◌, eqb, length, take, drop, replicate}
use Rattle.std.proofs.Common.{arith, ◌∙◌, ap, length-append, take_at}
use Rattle.std.proofs.lemmas.List.{length-replicate, length-map}
use Rattle.std.proofs.Math.Seq.{drop-append-add}
use Rattle.rules.specs.Limits.{capacities, pages, lfu, opt}
use Rattle.rules.specs.Cases.{by_cases}
use Rattle.theory.specs.Policy.{policy_of}
use Rattle.theory.specs.OnePass.{list_after}
use Rattle.theory.proofs.Order.{policy_order}
use Rattle.theory.proofs.Theorem.{at_most}
use Rattle.kept.specs.Entries.{entry}
use Rattle.kept.specs.Rankings.{Ranking}
use Rattle.kept.specs.Kept.{kept}
use Rattle.kept.specs.Frequencies.{frequencies}
use Rattle.kept.specs.PastOnly.{list_past_only, tally_past_only, policy_past_only, ranking_past_only}
use Rattle.kept.specs.Memory.{length_after, padded, places_after, depths_after, counts_after, Running}

-- as many places are in use as there are entries, and no more than k
pub entries_length : (ranking : Ranking) (policy k : ℕ) (past to : List ℕ)
    → length (kept ranking (policy_of policy) k past to) ≡ length_after policy k past to
unfolding kept length_after
entries_length ranking policy k past to = length-map (list_after (policy_of policy) k past to) (entry (ranking past to))

pub length_most : (policy k : ℕ) (past to : List ℕ) → length_after policy k past to ≤ k
unfolding length_after
length_most policy k past to = at_most (policy_of policy) (policy_order policy) k past to

pub padded_length : (l : List ℕ) → length l ≤ capacities → length (padded l) ≡ capacities
unfolding padded
padded_length l h =
    rw (length-append l (replicate (capacities - length l) 0), length-replicate {A = ℕ} (capacities - length l) 0) (omega arith)

pub take_padded : (l : List ℕ) (n : ℕ) → length l ≡ n → take n (padded l) ≡ l
unfolding padded
take_padded l n e = take_at l (replicate (capacities - length l) 0) n e

drop_zeros : (n j : ℕ) → drop j (replicate {A = ℕ} n 0) ≡ replicate (n - j) 0
drop_zeros n zero = ap (λ (m : ℕ). replicate {A = ℕ} m 0) (all_left n)
  where
    all_left : (n : ℕ) → n ≡ n - 0
    all_left n = omega arith
drop_zeros zero (suc j) = ap (λ (m : ℕ). replicate {A = ℕ} m 0) (none_left j)
  where
    none_left : (j : ℕ) → 0 ≡ 0 - suc j
    none_left j = omega arith
drop_zeros (suc n) (suc j) = drop_zeros n j ∙ ap (λ (m : ℕ). replicate {A = ℕ} m 0) (one_less n j)
  where
    one_less : (n j : ℕ) → n - j ≡ suc n - suc j
    one_less n j = omega arith

-- a longer list laid over a shorter one has 0 behind it too
pub padded_over : (l m : List ℕ) → length l ≤ length m → length m ≤ capacities → m ++ drop (length m) (padded l) ≡ padded m
unfolding padded
padded_over l m longer fits =
    let further : ℕ = length m - length l in
    let far : length m ≡ length l + (length m - length l) = omega arith in
    let left : capacities - length l - (length m - length l) ≡ capacities - length m = omega arith in
    let behind : drop (length m) (l ++ replicate (capacities - length l) 0) ≡ replicate (capacities - length m) 0 =
    ap (λ (i : ℕ). drop i (l ++ replicate (capacities - length l) 0)) far
    ∙ drop-append-add l (replicate (capacities - length l) 0) further
    ∙ drop_zeros (capacities - length l) further ∙ ap (λ (i : ℕ). replicate {A = ℕ} i 0) left in
    ap (λ (tail : List ℕ). m ++ tail) behind

-- every policy starts with no page counted
pub no_counts : (policy : ℕ) → replicate pages 0 ≡ counts_after policy []
unfolding counts_after frequencies
no_counts policy = by_cases (eqb policy lfu) (λ e. rw e) (λ e. rw e)

-- under LRU and LFU what is still to come changes nothing
module _ (policy : ℕ) (back : policy < opt) (past to to' : List ℕ) where
  pub length_past_only : (k : ℕ) → length_after policy k past to ≡ length_after policy k past to'
  unfolding length_after
  length_past_only k = rw (list_past_only (policy_of policy) (policy_past_only policy back) k past to to')

  pub places_past_only : (k : ℕ) → places_after policy k past to ≡ places_after policy k past to'
  unfolding places_after kept
  places_past_only k =
      rw (
        ranking_past_only policy back past to to',
        list_past_only (policy_of policy) (policy_past_only policy back) k past to to',
      )

  pub depths_past_only : (k : ℕ) → depths_after policy k past to ≡ depths_after policy k past to'
  unfolding depths_after
  depths_past_only k = tally_past_only (policy_of policy) (policy_past_only policy back) k past to to'

  pub running_past_only : {k n : ℕ} {places depths counts : List ℕ} → Running policy k past to n places depths counts
      → Running policy k past to' n places depths counts
  running_past_only {k} run =
      record {
        length_is = run.length_is ∙ length_past_only k;
        places_are = run.places_are ∙ places_past_only k;
        depths_are = run.depths_are ∙ depths_past_only k;
        counts_are = run.counts_are;
      }
