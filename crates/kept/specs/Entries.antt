-- A list kept as entries: a page and its rank in one number, so that comparing two entries compares two pages, and only the
-- entry of the referenced page ever changes.
use Rattle.std.specs.Prelude.{ℕ, ◌+◌, ◌*◌, ◌-◌, ◌%◌, true, cond, List, [], ◌∷◌, ltb, eqb}
use Rattle.theory.specs.Priority.{Priority}
use Rattle.theory.specs.OnePass.{carry}

-- the rank above, the page below, turned round since the smaller page number is the higher
unfoldable pub entry : (ℕ → ℕ) → ℕ → ℕ
entry rank p = rank p * 65536 + (65535 - p)

-- the page of an entry
unfoldable pub page_of : ℕ → ℕ
page_of e = 65535 - e % 65536

-- the larger entry is the higher
unfoldable pub larger : Priority
larger a b = ltb b a

-- the carried entry is always the higher: what carrying is under LRU, where the list stands in the order of priority
unfoldable pub always : Priority
always a b = true

-- a reference to the page whose entry is `old`, and is `new` from now on
unfoldable pub place_entry : Priority → ℕ → ℕ → List ℕ → List ℕ
place_entry above old new [] = new ∷ []
place_entry above old new (y ∷ l) = new ∷ cond (eqb y old) l (carry above old y l)
