-- The rank that code keeps of each page under a policy, more is higher, and how it compares two entries (rules Q1 to Q3).
use Rattle.std.specs.Prelude.{ℕ, cond, List, eqb}
use Rattle.rules.specs.Limits.{lru, lfu}
use Rattle.rules.specs.Lists.{times}
use Rattle.theory.specs.Priority.{Priority}
use Rattle.theory.specs.Policy.{nearness}
use Rattle.kept.specs.Entries.{always, larger}

-- a rank for each page, from the references before a moment, latest first, and those still to come
abbrev pub Ranking : Type 0
Ranking = List ℕ → List ℕ → ℕ → ℕ

-- LRU needs none: its list stands in the order of priority
unfoldable pub unranked : Ranking
unranked past to p = 0

unfoldable pub frequency : Ranking
frequency past to p = times p past

unfoldable pub sooner : Ranking
sooner past to p = nearness p to

-- L7: by the policy's number
unfoldable pub ranking_of : ℕ → Ranking
ranking_of policy = cond (eqb policy lru) unranked (cond (eqb policy lfu) frequency sooner)

-- LRU's carried entry always stays; LFU and OPT compare
unfoldable pub shown_of : ℕ → Priority
shown_of policy = cond (eqb policy lru) always larger
