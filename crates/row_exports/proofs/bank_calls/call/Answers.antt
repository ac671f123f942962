-- `row_exports::bank_calls::call`: 40 where the test fails, else what the proved function promises, told in numbers.
use Rattle.row_exports.specs.Narrow.{narrow_frame}
use Rattle.row_exports.specs.BanksLaws.{banks_unsound, banks_told}
use Rattle.row_exports.proofs.bank_calls.call.Goals as goal

pub returns-then-not-sound : goal.returns-then-not-sound
returns-then-not-sound c = rw c.tell.ensures (banks_unsound c.sound.ensures c.if-not-sound.true)

pub returns : goal.returns
returns c =
    banks_told c.sound.ensures c.if-not-sound.false (rw c.byte_of.ensures (narrow_frame c.args.event c.args.frame))
    c.call-reply.ensures c.tell_reply.ensures
