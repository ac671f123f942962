-- What the search for an entry says: which places have been passed over, and where it stands.
use Rattle.std.specs.Prelude.{ℕ, ◌+◌, ◌≤◌, ◌<◌, ◌≡◌, List, length, get_or, Option, MatchOption}
use Rattle.theory.specs.OnePass.{depth}

-- so many places are compared at once
abbrev pub block : ℕ
block = 8

-- none of the n places from this one on has the entry
abbrev pub free_of : ℕ → ℕ → ℕ → List ℕ → Type 0
free_of old from n list = (i : ℕ) → i < n → get_or list (from + i) 0 ≡ old → ⊥

-- none of the first n places has the entry
pub record Free (old n : ℕ) (list : List ℕ) : Type 0 where
  pub inside : n ≤ length list
  pub none : (i : ℕ) → i < n → get_or list i 0 ≡ old → ⊥

-- nowhere, where its depth is 0, or at a place from 0, whose depth is one more
abbrev pub Found : ℕ → List ℕ → Option ℕ → Type 0
Found old list r = MatchOption r (depth old list ≡ 0) (λ i. (i < length list) × (depth old list ≡ i + 1))
