-- The place read is the frame's slot.
use Rattle.row_theory.proofs.LendingLaws.{leaving_inside, leaving}
use Rattle.row.proofs.slots.leave_slot.Goals as goal

pub bounds-slots-at : goal.bounds-slots-at
bounds-slots-at c = leaving_inside c.requires.0 c.requires.1 c.requires.2

pub returns : goal.returns
returns c = leaving c.requires.0 c.requires.1 c.requires.2
