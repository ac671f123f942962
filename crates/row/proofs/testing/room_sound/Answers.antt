-- The slot at the front decides where the row is full.
use Rattle.std.proofs.Common.{arith}
use Rattle.row_theory.proofs.TestStepLaws.{room_left, room_past, room_gap, room_full}
use Rattle.row.proofs.testing.room_sound.Goals as goal

pub returns-then-held-lt-HELD : goal.returns-then-held-lt-HELD
returns-then-held-lt-HELD c = room_left (omega arith)

pub returns-then-front-ge-SLOTS : goal.returns-then-front-ge-SLOTS
returns-then-front-ge-SLOTS c = room_past c.requires c.if-held-lt-HELD.false c.if-front-ge-SLOTS.true

pub returns-then-slots-front-ge-FRAMES : goal.returns-then-slots-front-ge-FRAMES
returns-then-slots-front-ge-FRAMES c = room_gap c.requires (omega arith) (omega arith) c.if-slots-front-ge-FRAMES.true

pub returns : goal.returns
returns c = room_full c.requires (omega arith) (omega arith)
