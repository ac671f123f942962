-- The frame's state decides.
use Rattle.std.proofs.Common.{arith}
use Rattle.row_theory.proofs.TestStepLaws.{frame_out, frame_unknown, frame_there}
use Rattle.row.proofs.testing.frame_sound.Goals as goal

pub returns-then-state-eq-ABSENT : goal.returns-then-state-eq-ABSENT
returns-then-state-eq-ABSENT c = frame_out c.if-state-eq-ABSENT.true

pub returns-then-state-gt-BUSY : goal.returns-then-state-gt-BUSY
returns-then-state-gt-BUSY c = frame_unknown (omega arith)

pub returns : goal.returns
returns c = frame_there c.if-state-eq-ABSENT.false (omega arith)
