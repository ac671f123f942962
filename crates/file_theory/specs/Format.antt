-- The numbers of a trace file, where a section's values stand, and how long a file is at most (docs/RULES.md, F1, F2 and F5).
use Rattle.std.specs.Prelude.{ℕ, zero, suc, ◌+◌, ◌*◌, ◌≡◌, List, [], ◌∷◌, get_or, take, drop}
use Rattle.rules.specs.Limits.{capacities, references}

-- F1: a number is 16 bits, low byte first; this one starts at byte i
abbrev pub number_at : List ℕ → ℕ → ℕ
number_at bytes i = get_or bytes i 0 + 256 * get_or bytes (i + 1) 0

-- the first n numbers of some bytes
unfoldable pub numbers : ℕ → List ℕ → List ℕ
numbers zero bytes = []
numbers (suc n) bytes = number_at bytes 0 ∷ numbers n (drop 2 bytes)

-- all the numbers of some bytes; a last byte by itself is none
unfoldable pub all_numbers : List ℕ → List ℕ
all_numbers [] = []
all_numbers (a ∷ []) = []
all_numbers (a ∷ b ∷ bytes) = (a + 256 * b) ∷ all_numbers bytes

-- F2: a section is a count and so many values; it is this many bytes
abbrev pub section_size : ℕ → ℕ
section_size n = 2 + 2 * n

-- the n values of the section that some bytes start with, and the bytes behind that section
abbrev pub section_values : ℕ → List ℕ → List ℕ
section_values n bytes = numbers n (drop 2 bytes)

abbrev pub behind_section : ℕ → List ℕ → List ℕ
behind_section n bytes = drop (section_size n) bytes

-- F5: the longest file has both sections full
abbrev pub longest : ℕ
longest = section_size capacities + section_size references

-- F5: the first n bytes of a buffer are what came of an input: all of it, or one byte more than the longest file has
abbrev pub Came : ℕ → List ℕ → List ℕ → Type 0
Came n buffer input = take n buffer ≡ take (suc longest) input
