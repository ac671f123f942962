-- `banks::gating::store`: the part of the gates that is written over.
use Rattle.std.proofs.Common.{arith}
use Rattle.rules.specs.Limits.{bank_frames}
use Rattle.bank_theory.proofs.BankStepLaws.{stored_part}
use Rattle.banks.proofs.gating.store.Goals as goal

pub returns : goal.returns
returns c =
    stored_part c.args.gates.now c.fill.new.self c.args.first bank_frames c.args.state _ (omega arith)
    (omega (arith, c.requires.0, c.requires.1)) (c.fill.ensures.after (λ y e. e))
