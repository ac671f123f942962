-- `row_exports::frame_row::call`: what the proved function promises, told in numbers.
use Rattle.row_exports.specs.Narrow.{narrow_call}
use Rattle.row_exports.specs.RowLaws.{row_told}
use Rattle.row_exports.proofs.frame_row.call.Goals as goal

pub returns : goal.returns
returns c =
    row_told c.sound.ensures c.if-not-sound.false (rw c.byte_of.ensures (narrow_call c.args.event c.args.frame))
    c.call-reply.ensures c.tell_reply.ensures
