-- First visits: references to a page that was not referenced before, whatever the policy and K. VisitLaws.antt says
-- that they are as many as there are different pages.
use Rattle.std.specs.Prelude.{ℕ, zero, suc, ◌+◌, not, List, [], ◌∷◌, reverse}
use Rattle.rules.specs.Lists.{holds, one}

-- of the references before a moment, latest first
unfoldable pub first_visits : List ℕ → ℕ
first_visits [] = 0
first_visits (x ∷ past) = first_visits past + one (not (holds x past))

-- of a whole trace
unfoldable pub first_in : List ℕ → ℕ
first_in trace = first_visits (reverse trace)

-- how many of the pages below n are in a list
unfoldable pub different : ℕ → List ℕ → ℕ
different zero l = 0
different (suc n) l = different n l + one (holds n l)
