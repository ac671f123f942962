-- A place is one more of the walk.
use Rattle.step.proofs.Walk.{walk_on, walk_stop, walk_end}
use Rattle.step.proofs.carry_lower.Goals as goal

pub returns-in_err-carried : goal.returns-in_err-carried
returns-in_err-carried c =
    rw c.from_residual.ensures (walk_stop c.loop-i.invariant c.loop-i-test.true c.in_err-carried.ensures)

pub loop-i-preserved : goal.loop-i-preserved
loop-i-preserved c = walk_on c.loop-i.invariant c.loop-i-test.true c.in_ok-carried.ensures

pub returns : goal.returns
returns c = walk_end c.loop-i.invariant c.loop-i-test.false
