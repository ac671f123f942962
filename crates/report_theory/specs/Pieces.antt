-- The pieces of the report that are a number and the byte behind it, how the report is put together from its pieces, and how
-- long they are.
use Rattle.std.specs.Prelude.{ℕ, ◌+◌, ◌^◌, ◌≤◌, ◌<◌, ◌≡◌, List, [], ◌∷◌, ◌++◌, length}
use Rattle.std.proofs.Common.{ap, ◌∙◌, append_assoc, arith, length-append}
use Rattle.report_theory.specs.Text.{text, decimal}
use Rattle.report_theory.specs.Report.{line, heading, ending, refused_line}
use Rattle.report_theory.specs.Buffer.{Wrote, then}
use Rattle.report_theory.specs.Decimals.{decimal_short}

-- a number with the byte behind it
abbrev pub number_then : ℕ → ℕ → List ℕ
number_then n behind = decimal n ++ (behind ∷ [])

-- whatever that byte is
pub number_long : (n behind : ℕ) → length (number_then n behind) ≡ length (decimal n) + 1
number_long n behind = length-append (decimal n) (behind ∷ [])

pub line_numbers : (k a b c : ℕ) → line k a b c ≡ number_then k 32 ++ number_then a 32 ++ number_then b 32 ++ number_then c 10
unfolding line
line_numbers k a b c = simp append_assoc

pub length_line : (k a b c : ℕ)
    → length (line k a b c)
    ≡ length (number_then k 32) + length (number_then a 32) + length (number_then b 32) + length (number_then c 10)
length_line k a b c =
    ap length (line_numbers k a b c)
    ∙ omega (
      arith,
      length-append (number_then k 32 ++ number_then a 32 ++ number_then b 32) (number_then c 10),
      length-append (number_then k 32 ++ number_then a 32) (number_then b 32),
      length-append (number_then k 32) (number_then a 32),
    )

pub ending_numbers : (n : ℕ) → ending n ≡ text "references " ++ number_then n 10
unfolding ending
ending_numbers n = simp append_assoc

pub refused_numbers : (n : ℕ) → refused_line n ≡ text "refused " ++ number_then n 10
unfolding refused_line
refused_numbers n = simp append_assoc

-- the report of an accepted file, from the texts that it is put together from
pub report_written : {first second third last : ℕ} {out out₁ out₂ out₃ out₄ : List ℕ} (body : List ℕ) (n : ℕ)
    → length heading + length body + 11 ≤ length out
    → Wrote 0 heading out first out₁ → Wrote first body out₁ second out₂ → Wrote second (text "references ") out₂ third out₃
    → Wrote third (number_then n 10) out₃ last out₄
    → Wrote 0 (heading ++ body ++ ending n) out last out₄
report_written body n room a b c d =
    rw (ending_numbers n, ← append_assoc (heading ++ body) (text "references ") (number_then n 10))
    (then (omega (arith, length-append heading body, length-append (heading ++ body) (text "references ")))
    (then (omega (arith, length-append heading body)) (then (omega arith) a b) c) d)

-- ten digits at most, and that byte
pub number_short : (n behind : ℕ) → n < 2 ^ 32 → length (number_then n behind) ≤ 11
number_short n behind h = omega (arith, length-append (decimal n) (behind ∷ []), decimal_short n h)
