-- The tests that the exported calls make of the session that they are lent (docs/RULES.md, X2 to X4).
use Rattle.std.specs.Prelude.{ℕ, zero, suc, ◌+◌, Bool, cond, not, ◌&&◌, List, eqb, leb, ltb, get_or}
use Rattle.rules.specs.Limits.{capacities, references, pages, opt, lfu, is_capacity}
use Rattle.rules.specs.AllBelow.{all_below}
use Rattle.kept.specs.Entries.{entry, page_of}
use Rattle.session.specs.declared.Session.{Session}
use Rattle.session.specs.Lent.{Lent}

-- X2: its numbers fit. The policy is 0 or 1, K is 1 to 64, the places in use are at most K, the references at most 4,096
unfoldable pub fits : Session → Bool
fits s = ltb s.policy opt && (is_capacity s.k && (leb s.length s.k && leb s.references references))

-- the sum of the first n numbers of a table
unfoldable pub total : List ℕ → ℕ → ℕ
total table zero = 0
total table (suc n) = total table n + get_or table n 0

-- X3: its depths add up. The 65 counts of depths add up to the references
unfoldable pub adds_up : Session → List ℕ → Bool
adds_up s depths = eqb (total depths (suc capacities)) s.references

-- what hits and misses test
abbrev pub countable : Session → List ℕ → Bool
countable s depths = fits s && adds_up s depths

-- the page in a place
abbrev pub page_at : List ℕ → ℕ → ℕ
page_at places i = page_of (get_or places i 0)

-- another page stands in place j
abbrev pub stands_else : List ℕ → ℕ → ℕ → Bool
stands_else places page j = not (eqb (page_at places j) page)

-- a page stands in place i, with its count beside it, and in no place before
unfoldable pub page_stands : List ℕ → List ℕ → ℕ → Bool
page_stands places counts i =
    ltb (page_at places i) pages
    && (eqb (get_or places i 0) (entry (λ p. get_or counts (page_at places i) 0) (page_at places i))
    && all_below (stands_else places (page_at places i)) i)

-- so it is of each place in use, and the places behind read 0
unfoldable pub place_stands : ℕ → List ℕ → List ℕ → ℕ → Bool
place_stands used places counts i = cond (ltb i used) (page_stands places counts i) (eqb (get_or places i 0) 0)

-- the counts of pages add up to the references under LFU, to 0 under LRU
unfoldable pub counts_add_up : Session → List ℕ → Bool
counts_add_up s counts = eqb (total counts pages) (cond (eqb s.policy lfu) s.references 0)

-- X4: it is sound
unfoldable pub sound : Lent → Bool
sound m =
    countable m.value m.depths
    && (all_below (place_stands m.value.length m.places m.counts) capacities
    && counts_add_up m.value m.counts)
