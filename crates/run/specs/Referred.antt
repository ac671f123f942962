-- What one reference does to all that is kept of a run, by the policy's number and for any memory: the list, how often each
-- depth came, LFU's counts. OPT is told two numbers: `near`, how near this reference is counted from the trace's end, and
-- `next`, how near the next one to the same page is. LRU and LFU read neither.
use Rattle.std.specs.Prelude.{ℕ, suc, ◌+◌, min, cond, ◌≡◌, List, eqb, ltb, get_or, set}
use Rattle.rules.specs.Limits.{capacities, pages, lru, lfu}
use Rattle.theory.specs.Priority.{Priority}
use Rattle.kept.specs.Entries.{entry, larger}
use Rattle.kept.specs.Rankings.{shown_of}
use Rattle.step.specs.declared.Step.{Step}
use Rattle.run.specs.declared.reference.Ranks.{Ranks}
use Rattle.step.specs.Stepped.{Stepped}

-- the largest rank of 16 bits and the largest count of 32: no accepted run comes near them, and any memory may hold them
abbrev pub largest_rank : ℕ
largest_rank = 65535

abbrev pub largest_count : ℕ
largest_count = 4294967295

-- how often the table says that a page was referenced; a number that is no page never was
unfoldable pub count_in : List ℕ → ℕ → ℕ
count_in counts page = cond (ltb page pages) (get_or counts page 0) 0

unfoldable pub count_stored : ℕ → ℕ → List ℕ → List ℕ
count_stored page count counts = cond (ltb page pages) (set counts page count) counts

abbrev pub one_more : ℕ → ℕ
one_more count = min (count + 1) largest_rank

-- the referenced page's rank before and after the reference: LFU counts, OPT was told
unfoldable pub rank_now : ℕ → ℕ → ℕ → List ℕ → ℕ
rank_now policy page near counts = cond (eqb policy lfu) (count_in counts page) near

unfoldable pub rank_next : ℕ → ℕ → ℕ → ℕ
rank_next policy rank next = cond (eqb policy lfu) (one_more rank) next

-- LRU keeps no rank
unfoldable pub rank_before : ℕ → ℕ → ℕ → List ℕ → ℕ
rank_before policy page near counts = cond (eqb policy lru) 0 (rank_now policy page near counts)

unfoldable pub rank_then : ℕ → ℕ → ℕ → ℕ → List ℕ → ℕ
rank_then policy page near next counts = cond (eqb policy lru) 0 (rank_next policy (rank_now policy page near counts) next)

-- LFU alone keeps the count
unfoldable pub counts_kept : ℕ → ℕ → ℕ → List ℕ → List ℕ
counts_kept policy page rank counts = cond (eqb policy lfu) (count_stored page rank counts) counts

unfoldable pub counts_then : ℕ → ℕ → List ℕ → List ℕ
counts_then policy page counts = cond (eqb policy lfu) (count_stored page (one_more (count_in counts page)) counts) counts

-- the depth came once more
unfoldable pub depths_then : ℕ → List ℕ → List ℕ
depths_then d depths = cond (ltb d (suc capacities)) (set depths d (min (get_or depths d 0 + 1) largest_count)) depths

-- a step in a list, and its depth counted
pub record Tallied (above : Priority) (k old new n : ℕ) (places depths places' depths' : List ℕ) (r : Step) : Type 0 where
  pub stepped : Stepped above k old new n places places' r
  pub depths_are : depths' ≡ depths_then r.depth depths

-- what looking up a rank answers, and keeps
pub record Ranking (policy page near next : ℕ) (counts counts' : List ℕ) (r : Ranks) : Type 0 where
  pub now_is : r.now ≡ rank_now policy page near counts
  pub then_is : r.then ≡ rank_next policy r.now next
  pub counts_are : counts' ≡ counts_kept policy page r.then counts

-- under the policies that rank
pub record Ranked (policy page near next n k : ℕ) (places depths counts places' depths' counts' : List ℕ)
    (r : Step) : Type 0 where
  pub tallied : Tallied larger k (entry (λ p. rank_now policy page near counts) page)
      (entry (λ p. rank_next policy (rank_now policy page near counts) next) page) n places depths places' depths' r
  pub counts_are : counts' ≡ counts_kept policy page (rank_next policy (rank_now policy page near counts) next) counts

-- under every policy
pub record Referred (policy page near next n k : ℕ) (places depths counts places' depths' counts' : List ℕ)
    (r : Step) : Type 0 where
  pub tallied : Tallied (shown_of policy) k (entry (λ p. rank_before policy page near counts) page)
      (entry (λ p. rank_then policy page near next counts) page) n places depths places' depths' r
  pub counts_are : counts' ≡ counts_then policy page counts
