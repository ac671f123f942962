-- `banks::gating::leave_one`: a drop that is left out would have been refused.
use Rattle.bank_theory.proofs.BankStepLaws.{drop_nothing}
use Rattle.banks.proofs.gating.leave_one.Goals as goal

pub returns-then-states-frame-ne-IDLE : goal.returns-then-states-frame-ne-IDLE
returns-then-states-frame-ne-IDLE c = drop_nothing c.requires.0 c.requires.1 c.if-states-frame-ne-IDLE.true
