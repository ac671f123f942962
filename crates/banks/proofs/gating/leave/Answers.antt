-- `banks::gating::leave`: one frame more has left.
use Rattle.std.proofs.Common.{arith}
use Rattle.bank_theory.proofs.BankStepLaws.{drop_start, drop_next}
use Rattle.banks.proofs.gating.leave.Goals as goal

pub loop-frame-init : goal.loop-frame-init
loop-frame-init c = drop_start c.requires.stands

pub loop-frame-preserved : goal.loop-frame-preserved
loop-frame-preserved c = drop_next c.loop-frame.invariant (omega arith) c.leave_one.ensures
