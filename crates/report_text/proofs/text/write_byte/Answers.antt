-- `text::write_byte`: a store is a text of one byte.
use Rattle.std.proofs.Common.{refl, arith}
use Rattle.report_theory.specs.Buffer.{written_byte}
use Rattle.report_text.proofs.text.write_byte.Goals as goal

pub returns : goal.returns
returns c = record { place = refl; buffer = written_byte c.args.at c.args.b c.args.out.now (omega arith) }
