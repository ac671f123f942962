-- `banks::gating::busy_from`: a busy frame among the bank's states.
use Rattle.std.proofs.Common.{arith, ◌∙◌}
use Rattle.rules.specs.Limits.{bank_frames}
use Rattle.bank_theory.proofs.BankStepLaws.{busy_among}
use Rattle.banks.proofs.gating.busy_from.Goals as goal

pub returns : goal.returns
returns c =
    c.contains.ensures.value ∙
    busy_among c.args.states.now c.args.first bank_frames _ (omega arith) (omega (arith, c.requires, c.told-states))
