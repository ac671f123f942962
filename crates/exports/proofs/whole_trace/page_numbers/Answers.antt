-- The numbers grow by one page a turn, and behind the last page nothing is left over.
use Rattle.std.proofs.Common.{arith}
use Rattle.exports.proofs.Pages.{numbers_start, numbers_next, numbers_end}
use Rattle.exports.proofs.whole_trace.page_numbers.Goals as goal

pub loop-i-init : goal.loop-i-init
loop-i-init c = (numbers_start c.args.shown (omega arith), omega arith)

pub loop-i-preserved : goal.loop-i-preserved
loop-i-preserved c = (
  numbers_next c.args.shown (omega arith) (record { 0 = 0 }) c.loop-i.i c.loop-i.numbers (omega arith) c.loop-i.invariant.0,
  omega arith,
)

pub returns : goal.returns
returns c = numbers_end c.args.shown (omega arith) c.loop-i.i c.loop-i.numbers (omega arith) (omega arith) c.loop-i.invariant.0
