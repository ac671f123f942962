-- `text::write_number`: one text after the other.
use Rattle.std.proofs.Common.{[], ◌∷◌, length-append, arith}
use Rattle.report_theory.specs.Text.{decimal}
use Rattle.report_theory.specs.Buffer.{then}
use Rattle.report_text.proofs.text.write_number.Goals as goal

pub returns : goal.returns
returns c =
    then (omega (arith, length-append (decimal c.args.n) (c.args.behind ∷ []))) c.write_decimal-next.ensures
    c.write_byte.ensures
