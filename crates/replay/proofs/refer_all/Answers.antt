-- A law for each step of the loop and each way out of it.
use Rattle.std.proofs.Common.{sym, ◌∙◌}
use Rattle.replay.proofs.ReplayLaws.{along_next, along_stop, along_end}
use Rattle.replay.proofs.refer_all.Goals as goal

pub returns-then-is_err : goal.returns-then-is_err
returns-then-is_err c =
    along_stop c.requires.few c.loop-i.invariant c.loop-i-test.true c.refer.ensures
    (sym c.is_err.ensures.value ∙ c.if-is_err.true)

pub loop-i-preserved : goal.loop-i-preserved
loop-i-preserved c =
    along_next c.requires.few c.loop-i.invariant c.loop-i-test.true c.refer.ensures
    (sym c.is_err.ensures.value ∙ c.if-is_err.false)

pub returns : goal.returns
returns c = along_end c.loop-i.invariant c.loop-i-test.false
