-- `row_exports::bank_calls::musselrung_banks_victim_parts`: what the proved function promises, told in numbers, or 40 where the
-- test fails.
use Rattle.row_exports.specs.BanksLaws.{open_victim_unsound, open_victim_told}
use Rattle.row_exports.proofs.bank_calls.musselrung_banks_victim_parts.Goals as goal

pub returns-then-sound : goal.returns-then-sound
returns-then-sound c =
    open_victim_told c.sound.ensures c.if-sound.true c.victim-victim.ensures c.tell_victim.ensures

pub returns : goal.returns
returns c = rw c.tell.ensures (open_victim_unsound c.sound.ensures c.if-sound.false)
