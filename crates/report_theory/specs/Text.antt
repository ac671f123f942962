-- Text as bytes: words as they are written, and numbers in decimal (docs/RULES.md, T1).
use Rattle.std.specs.Prelude.{ℕ, zero, suc, ◌+◌, ◌/◌, ◌%◌, cond, List, [], ◌∷◌, ◌++◌, ltb}
use Prim.Native.Char.{code}
use Prim.Native.String.{String}

-- a text's bytes; every text here is ASCII, where a character's code is its byte
abbrev pub text : String → List ℕ
text String.[] = []
text (String.◌∷◌ c s) = code c ∷ text s

-- the byte of a digit
abbrev pub digit : ℕ → ℕ
digit d = 48 + d

-- a number in decimal, with room for so many digits
unfoldable pub decimal_in : ℕ → ℕ → List ℕ
decimal_in zero n = []
decimal_in (suc room) n =
    let longer = decimal_in room (n / 10) ++ (digit (n % 10) ∷ []) in
    cond (ltb n 10) (digit n ∷ []) longer

-- a number in decimal: no number has more digits than one more than itself
unfoldable pub decimal : ℕ → List ℕ
decimal n = decimal_in (suc n) n
