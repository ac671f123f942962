-- One more number passes or does not.
use Rattle.std.proofs.Common.{arith}
use Rattle.rules.specs.AllBelow.{all_start, all_also, all_done}
use Rattle.rules.proofs.all_pass.Goals as goal

pub loop-i-init : goal.loop-i-init
loop-i-init g c = λ p each. all_start

pub loop-i-preserved : goal.loop-i-preserved
loop-i-preserved g c =
    λ p each.
    all_also (c.loop-i.invariant p each) (omega arith)
    (each c.loop-i.i c.test.result (omega arith) c.test.ensures) c.both-sound.ensures

pub returns : goal.returns
returns g c = λ p each. all_done (c.loop-i.invariant p each) (omega arith)
