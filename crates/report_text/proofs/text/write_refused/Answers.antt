-- `text::write_refused`: a word, then the number.
use Rattle.std.proofs.Common.{◌∙◌, arith}
use Rattle.rules.specs.Refusals.{refusal_number}
use Rattle.report_theory.specs.Buffer.{then}
use Rattle.report_theory.specs.Pieces.{number_long, number_short, refused_numbers}
use Rattle.report_text.proofs.text.write_refused.Goals as goal

pub write_number-requires : goal.write_number-requires
write_number-requires c =
    omega (
      arith,
      number_short c.from.result 10 (omega arith),
      number_long c.from.result 10,
      c.put-at.ensures.place,
    )

pub returns : goal.returns
returns c =
    rw (refused_numbers (refusal_number c.args.refusal))
    (then (omega arith) c.put-at.ensures (rw (c.from.ensures ∙ c.number.ensures) at c.write_number.ensures))
