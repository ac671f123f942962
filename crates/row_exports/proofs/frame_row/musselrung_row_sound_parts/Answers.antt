-- `row_exports::frame_row::musselrung_row_sound_parts`: the test that the proved function answers, told in numbers.
use Rattle.row_exports.specs.RowLaws.{row_sound_told}
use Rattle.row_exports.proofs.frame_row.musselrung_row_sound_parts.Goals as goal

pub returns : goal.returns
returns c = row_sound_told c.sound.ensures c.tell_test.ensures
