-- One page more is shown at each place; past the last one in use the places still read 0.
use Rattle.std.proofs.Common.{arith}
use Rattle.kept.specs.Shown.{shown_start, shown_next, shown_end}
use Rattle.kept.proofs.shown.show.Goals as goal

pub loop-i-init : goal.loop-i-init
loop-i-init c = shown_start c.args.list.now

pub loop-i-preserved : goal.loop-i-preserved
loop-i-preserved c =
    rw c.page.ensures
    (shown_next c.args.list.now c.loop-i.places c.loop-i.i (omega arith) (omega arith) c.loop-i.invariant)

pub returns : goal.returns
returns c = shown_end c.args.n c.args.list.now c.loop-i.places c.loop-i.i (omega arith) c.loop-i.invariant
