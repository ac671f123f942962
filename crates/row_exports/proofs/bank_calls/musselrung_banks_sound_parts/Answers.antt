-- `row_exports::bank_calls::musselrung_banks_sound_parts`: the test that the proved function answers, told in numbers.
use Rattle.row_exports.specs.BanksLaws.{banks_sound_told}
use Rattle.row_exports.proofs.bank_calls.musselrung_banks_sound_parts.Goals as goal

pub returns : goal.returns
returns c = banks_sound_told c.sound.ensures c.tell_test.ensures
