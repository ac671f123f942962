-- References one after the other: what is kept of a run as a function of what was kept before, for any memory.
use Rattle.std.specs.Prelude.{ℕ, zero, suc, ◌-◌, ◌≡◌, List, ◌++◌, length, take, drop, get_or}
use Rattle.theory.specs.OnePass.{depth}
use Rattle.kept.specs.Entries.{entry}
use Rattle.kept.specs.Rankings.{shown_of}
use Rattle.step.specs.Stepped.{next}
use Rattle.run.specs.Referred.{rank_before, rank_then, counts_then, depths_then}

-- so many places in use, the places, how often each depth came, how often each page
pub record RunMemory : Type 0 where
  pub used : ℕ
  pub places : List ℕ
  pub depths : List ℕ
  pub counts : List ℕ

abbrev pub run_memory : ℕ → List ℕ → List ℕ → List ℕ → RunMemory
run_memory used places depths counts = record { used = used; places = places; depths = depths; counts = counts }

-- one reference to a page: its depth, and the list and all the memory after it
unfoldable pub depth_then : ℕ → ℕ → ℕ → RunMemory → ℕ
depth_then policy page near m = depth (entry (λ p. rank_before policy page near m.counts) page) (take m.used m.places)

unfoldable pub list_then : ℕ → ℕ → ℕ → ℕ → ℕ → RunMemory → List ℕ
list_then policy k page near ahead m =
    next (shown_of policy) k (entry (λ p. rank_before policy page near m.counts) page)
    (entry (λ p. rank_then policy page near ahead m.counts) page) m.used m.places

unfoldable pub memory_then : ℕ → ℕ → ℕ → ℕ → ℕ → RunMemory → RunMemory
memory_then policy k page near ahead m =
    record {
      used = length (list_then policy k page near ahead m);
      places = list_then policy k page near ahead m ++ drop (length (list_then policy k page near ahead m)) m.places;
      depths = depths_then (depth_then policy page near m) m.depths;
      counts = counts_then policy page m.counts;
    }

-- after the first i of these pages, of a trace with so many references left; `nexts` has what was found ahead of each
unfoldable pub memory_after : ℕ → ℕ → List ℕ → List ℕ → ℕ → RunMemory → ℕ → RunMemory
memory_after policy k pages nexts left m zero = m
memory_after policy k pages nexts left m (suc i) =
    memory_then policy k (get_or pages i 0) (left - i) (get_or nexts i 0) (memory_after policy k pages nexts left m i)

-- the depth of the last of them, 0 where there is none
unfoldable pub depth_after : ℕ → ℕ → List ℕ → List ℕ → ℕ → RunMemory → ℕ → ℕ
depth_after policy k pages nexts left m zero = 0
depth_after policy k pages nexts left m (suc i) =
    depth_then policy (get_or pages i 0) (left - i) (memory_after policy k pages nexts left m i)

pub record ReferredAll (policy k : ℕ) (pages nexts : List ℕ) (left : ℕ) (m m' : RunMemory) (r : ℕ) : Type 0 where
  pub memory_is : m' ≡ memory_after policy k pages nexts left m (length pages)
  pub depth_is : r ≡ depth_after policy k pages nexts left m (length pages)
