-- The marked cases P1 to P6 of docs/RULES.md: hit tables and last lists, as the definitions compute them. Policies and what is
-- wanted are the rules' own numbers, so that a changed number in code and definitions alike is refused here.
use Rattle.std.specs.Prelude.{ℕ, ◌≡◌, refl, List, [], ◌∷◌, ◌++◌, length}
use Rattle.rules.specs.Case.{Case, gotten, wished}
use Rattle.rules.specs.Lists as lists
use Rattle.theory.specs.Policy as policies
use Rattle.theory.specs.Plain as plain
use Rattle.theory.specs.OnePass as one_pass

abbrev T : List ℕ
T = 2 ∷ 3 ∷ 2 ∷ 1 ∷ 5 ∷ 2 ∷ 4 ∷ 5 ∷ 3 ∷ 2 ∷ 5 ∷ 2 ∷ []

-- the hit table of k entries, and the list after the whole trace; whoever unfolds this unfolds all that it computes by
unfoldable pub counted : ℕ → ℕ → List ℕ → List (List ℕ)
unfolding lists.holds lists.times lists.without lists.one lists.values_from
    policies.policy_of policies.lru policies.lfu policies.opt policies.by_more policies.smaller policies.nearness
    plain.hits_at plain.hits_after plain.cache_after plain.refer plain.evict plain.lowest
    one_pass.list_of one_pass.list_after one_pass.step one_pass.place one_pass.carry
counted policy k trace = plain.hits_up_to policy k trace ∷ one_pass.list_of policy k trace (length trace) ∷ []

-- the same under LRU, LFU and OPT
abbrev counts : ℕ → List ℕ → List (List ℕ)
counts k trace = counted 0 k trace ++ (counted 1 k trace ++ counted 2 k trace)

abbrev zeros : List ℕ
zeros = 0 ∷ 0 ∷ 0 ∷ 0 ∷ 0 ∷ []

-- P1: the empty trace, K 5, each policy
abbrev pub p1 : Case
p1 = record { got = counts 5 []; wanted = zeros ∷ [] ∷ zeros ∷ [] ∷ zeros ∷ [] ∷ [] }

-- P2: trace 7, K 1, each policy
abbrev pub p2 : Case
p2 =
    record {
      got = counts 1 (7 ∷ []);
      wanted = (0 ∷ []) ∷ (7 ∷ []) ∷ (0 ∷ []) ∷ (7 ∷ []) ∷ (0 ∷ []) ∷ (7 ∷ []) ∷ [];
    }

-- P3: trace 7 7, K 1, each policy
abbrev pub p3 : Case
p3 =
    record {
      got = counts 1 (7 ∷ 7 ∷ []);
      wanted = (1 ∷ []) ∷ (7 ∷ []) ∷ (1 ∷ []) ∷ (7 ∷ []) ∷ (1 ∷ []) ∷ (7 ∷ []) ∷ [];
    }

-- P4: T, LRU, K 5
abbrev pub p4 : Case
p4 = record { got = counted 0 5 T; wanted = (0 ∷ 2 ∷ 5 ∷ 6 ∷ 7 ∷ []) ∷ (2 ∷ 5 ∷ 3 ∷ 4 ∷ 1 ∷ []) ∷ [] }

-- P5: T, LFU, K 5
abbrev pub p5 : Case
p5 = record { got = counted 1 5 T; wanted = (0 ∷ 4 ∷ 5 ∷ 6 ∷ 7 ∷ []) ∷ (2 ∷ 5 ∷ 3 ∷ 1 ∷ 4 ∷ []) ∷ [] }

-- P6: T, OPT, K 5
abbrev pub p6 : Case
p6 = record { got = counted 2 5 T; wanted = (0 ∷ 5 ∷ 6 ∷ 7 ∷ 7 ∷ []) ∷ (2 ∷ 5 ∷ 3 ∷ 4 ∷ 1 ∷ []) ∷ [] }

-- each by itself, so that a case that fails is named
pub p1_holds : gotten p1 ≡ wished p1
unfolding counted
p1_holds = refl

pub p2_holds : gotten p2 ≡ wished p2
unfolding counted
p2_holds = refl

pub p3_holds : gotten p3 ≡ wished p3
unfolding counted
p3_holds = refl

pub p4_holds : gotten p4 ≡ wished p4
unfolding counted
p4_holds = refl

pub p5_holds : gotten p5 ≡ wished p5
unfolding counted
p5_holds = refl

pub p6_holds : gotten p6 ≡ wished p6
unfolding counted
p6_holds = refl
