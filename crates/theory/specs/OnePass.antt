-- The one-pass list (rules M1 to M8; Mattson 1970, equations 12 to 18).
use Rattle.std.specs.Prelude.{ℕ, suc, ◌+◌, Bool, cond, ◌&&◌, List, [], ◌∷◌, reverse, eqb, leb, take, drop}
use Rattle.rules.specs.Lists.{one}
use Rattle.theory.specs.Priority.{Priority, Policy, higher, lower}
use Rattle.theory.specs.Policy.{policy_of}

-- M2 to M4: y is carried down l, to the place of the referenced page x or to the end
unfoldable pub carry : Priority → ℕ → ℕ → List ℕ → List ℕ
carry above x y [] = y ∷ []
carry above x y (z ∷ l) = cond (eqb z x) (y ∷ l) (higher above y z ∷ carry above x (lower above y z) l)

-- M1, M5: the referenced page goes to place 1, and the old page of place 1 is carried down
unfoldable pub place : Priority → ℕ → List ℕ → List ℕ
place above x [] = x ∷ []
place above x (y ∷ l) = cond (eqb y x) (y ∷ l) (x ∷ carry above x y l)

-- M4: of K places; what is carried past them is dropped
unfoldable pub step : Priority → ℕ → ℕ → List ℕ → List ℕ
step above k x l = take k (place above x l)

-- the list of k places after `past`, with `to` still to come
unfoldable pub list_after : Policy → ℕ → List ℕ → List ℕ → List ℕ
list_after policy k [] to = []
list_after policy k (x ∷ past) to = step (policy past to) k x (list_after policy k past (x ∷ to))

-- the list that is never cut
unfoldable pub unlimited : Policy → List ℕ → List ℕ → List ℕ
unlimited policy [] to = []
unlimited policy (x ∷ past) to = place (policy past to) x (unlimited policy past (x ∷ to))

-- M8: the list of a whole trace after its first t references; OPT's future is the rest of the whole trace
unfoldable pub list_of : ℕ → ℕ → List ℕ → ℕ → List ℕ
list_of policy k trace t = list_after (policy_of policy) k (reverse (take t trace)) (drop t trace)

-- M6: the place of x, from 1, or 0 if it is not in the list; `i` is the place of the list's first page
unfoldable pub depth_from : ℕ → ℕ → List ℕ → ℕ
depth_from i x [] = 0
depth_from i x (z ∷ l) = cond (eqb z x) i (depth_from (suc i) x l)

abbrev pub depth : ℕ → List ℕ → ℕ
depth x l = depth_from 1 x l

-- M6: a hit at c is a depth from 1 to c
abbrev pub within : ℕ → ℕ → Bool
within d c = leb 1 d && leb d c

-- the references of a run whose depth in the list of k places was 1 to c
unfoldable pub depth_hits : Policy → ℕ → ℕ → List ℕ → List ℕ → ℕ
depth_hits policy k c [] to = 0
depth_hits policy k c (x ∷ past) to =
    depth_hits policy k c past (x ∷ to) + one (within (depth x (list_after policy k past (x ∷ to))) c)
