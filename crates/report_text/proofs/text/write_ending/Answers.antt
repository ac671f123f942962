-- `text::write_ending`: a word, then the number.
use Rattle.std.proofs.Common.{ℕ, ◌+◌, ◌≡◌, ap, ◌∙◌, length, length-append, arith}
use Rattle.report_theory.specs.Report.{ending}
use Rattle.report_theory.specs.Text.{text}
use Rattle.report_theory.specs.Buffer.{then}
use Rattle.report_theory.specs.Pieces.{number_then, number_long, ending_numbers}
use Rattle.report_text.proofs.text.write_ending.Goals as goal

-- both pieces fit, since they are the line
pieces_long : (n : ℕ) → length (ending n) ≡ 11 + length (number_then n 10)
pieces_long n = ap length (ending_numbers n) ∙ length-append (text "references ") (number_then n 10)

pub put-next-requires : goal.put-next-requires
put-next-requires c = omega (arith, pieces_long c.args.references)

pub write_number-requires : goal.write_number-requires
write_number-requires c =
    omega (arith, pieces_long c.args.references, number_long c.args.references 10, c.put-next.ensures.place)

pub returns : goal.returns
returns c =
    rw (ending_numbers c.args.references)
    (then (omega (arith, pieces_long c.args.references)) c.put-next.ensures c.write_number.ensures)
