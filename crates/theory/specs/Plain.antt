-- The plain cache of c frames (rules C1 to C3), from empty, on the references in order. It knows nothing of the one-pass list.
use Rattle.std.specs.Prelude.{ℕ, ◌+◌, cond, not, List, [], ◌∷◌, reverse, eqb, length}
use Rattle.rules.specs.Lists.{holds, without, one, values_from}
use Rattle.theory.specs.Priority.{Priority, Policy, lower}
use Rattle.theory.specs.Policy.{policy_of}

-- the page of lowest priority among y and the pages of l
unfoldable pub lowest : Priority → ℕ → List ℕ → ℕ
lowest above y [] = y
lowest above y (z ∷ l) = lowest above (lower above y z) l

-- the page of lowest priority leaves
unfoldable pub evict : Priority → List ℕ → List ℕ
evict above [] = []
evict above (y ∷ l) = without (lowest above y l) (y ∷ l)

-- C2, C3: one reference to x
unfoldable pub refer : Priority → ℕ → ℕ → List ℕ → List ℕ
refer above c x s = cond (holds x s) s (x ∷ cond (eqb (length s) c) (evict above s) s)

-- C1: what the cache holds after `past`
unfoldable pub cache_after : Policy → ℕ → List ℕ → List ℕ → List ℕ
cache_after policy c [] to = []
cache_after policy c (x ∷ past) to = refer (policy past to) c x (cache_after policy c past (x ∷ to))

unfoldable pub hits_after : Policy → ℕ → List ℕ → List ℕ → ℕ
hits_after policy c [] to = 0
hits_after policy c (x ∷ past) to =
    hits_after policy c past (x ∷ to) + one (holds x (cache_after policy c past (x ∷ to)))

unfoldable pub misses_after : Policy → ℕ → List ℕ → List ℕ → ℕ
misses_after policy c [] to = 0
misses_after policy c (x ∷ past) to =
    misses_after policy c past (x ∷ to) + one (not (holds x (cache_after policy c past (x ∷ to))))

-- the hits of a whole trace, under the policy of a number
unfoldable pub hits_at : ℕ → ℕ → List ℕ → ℕ
hits_at policy c trace = hits_after (policy_of policy) c (reverse trace) []

-- A4: the hit table of a whole trace, entry C-1 for each capacity C from 1 to k
abbrev pub hits_up_to : ℕ → ℕ → List ℕ → List ℕ
hits_up_to policy k trace = values_from (λ c. hits_at policy c trace) 1 k
