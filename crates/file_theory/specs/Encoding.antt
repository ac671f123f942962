-- The trace file made of capacities and references (docs/RULES.md, F1 and F2).
use Rattle.std.specs.Prelude.{ℕ, ◌%◌, ◌/◌, List, [], ◌∷◌, ◌++◌, length}

-- F1: each number as two bytes, low byte first
unfoldable pub bytes_of : List ℕ → List ℕ
bytes_of [] = []
bytes_of (v ∷ values) = v % 256 ∷ v / 256 ∷ bytes_of values

-- F2: the values after their count
abbrev pub encode_section : List ℕ → List ℕ
encode_section values = bytes_of (length values ∷ values)

-- F2: capacities, then references
abbrev pub encode : List ℕ → List ℕ → List ℕ
encode capacities references = encode_section capacities ++ encode_section references
