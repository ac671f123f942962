-- What code keeps of a run, all of it, place by place: `past` has the references before a moment, latest first, `to` those
-- still to come. Whole traces and sessions keep the same; a session has nothing to come.
use Rattle.std.specs.Prelude.{ℕ, ◌-◌, cond, ◌≡◌, List, ◌++◌, eqb, length, replicate}
use Rattle.rules.specs.Limits.{capacities, pages, lfu}
use Rattle.theory.specs.Policy.{policy_of}
use Rattle.theory.specs.OnePass.{list_after}
use Rattle.kept.specs.Rankings.{ranking_of}
use Rattle.kept.specs.Kept.{kept}
use Rattle.kept.specs.Tally.{tally}
use Rattle.kept.specs.Frequencies.{frequencies}

-- so many places are in use
unfoldable pub length_after : ℕ → ℕ → List ℕ → List ℕ → ℕ
length_after policy k past to = length (list_after (policy_of policy) k past to)

-- a list in memory, and 0 behind it
unfoldable pub padded : List ℕ → List ℕ
padded l = l ++ replicate (capacities - length l) 0

-- the list's entries
unfoldable pub places_after : ℕ → ℕ → List ℕ → List ℕ → List ℕ
places_after policy k past to = padded (kept (ranking_of policy) (policy_of policy) k past to)

-- how often each depth came
unfoldable pub depths_after : ℕ → ℕ → List ℕ → List ℕ → List ℕ
depths_after policy k past to = tally (policy_of policy) k past to

-- how often each page was referenced: LFU ranks by it, LRU and OPT keep nothing of the kind
unfoldable pub counts_after : ℕ → List ℕ → List ℕ
counts_after policy past = cond (eqb policy lfu) (frequencies past) (replicate pages 0)

-- the memory is that of a run: so many places in use, the entries, the depths, the counts
pub record Running (policy k : ℕ) (past to : List ℕ) (n : ℕ) (places depths counts : List ℕ) : Type 0 where
  pub length_is : n ≡ length_after policy k past to
  pub places_are : places ≡ places_after policy k past to
  pub depths_are : depths ≡ depths_after policy k past to
  pub counts_are : counts ≡ counts_after policy past
