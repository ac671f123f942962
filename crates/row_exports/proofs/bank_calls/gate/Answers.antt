-- `row_exports::bank_calls::gate`: 40 where the test fails, else what the proved function promises, told in numbers.
use Rattle.row_exports.specs.Narrow.{narrow_bank}
use Rattle.row_exports.specs.BanksLaws.{banks_unsound, banks_told}
use Rattle.row_exports.proofs.bank_calls.gate.Goals as goal

pub returns-then-not-sound : goal.returns-then-not-sound
returns-then-not-sound c = rw c.tell.ensures (banks_unsound c.sound.ensures c.if-not-sound.true)

pub returns : goal.returns
returns c =
    banks_told c.sound.ensures c.if-not-sound.false (rw c.byte_of.ensures (narrow_bank c.args.gating c.args.bank))
    c.gate-reply.ensures c.tell_reply.ensures
