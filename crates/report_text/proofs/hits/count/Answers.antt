-- `hits::count`: no count refuses a trace that keeps the rules, so the table holds its hits.
use Rattle.std.proofs.Common.{arith}
use Rattle.report_text.specs.Tables.{count_holds}
use Rattle.report_text.proofs.hits.count.Goals as goal

pub returns : goal.returns
returns c = count_holds c.args.policy (omega arith) c.requires (rw c.from.ensures at c.count.ensures)
