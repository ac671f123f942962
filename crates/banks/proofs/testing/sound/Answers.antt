-- `banks::testing::sound`: the row's test, then the gates.
use Rattle.std.proofs.Common.{rules}
use Rattle.bank_theory.proofs.BankTestLaws.{banks_failed, banks_passed}
use Rattle.banks.proofs.testing.sound.Goals as goal

pub returns-else-sound : goal.returns-else-sound
returns-else-sound c = banks_failed c.sound.ensures c.if-sound.false

pub returns-then-sound : goal.returns-then-sound
returns-then-sound c = banks_passed c.sound.ensures c.if-sound.true (search rules) c.gates_sound.ensures
