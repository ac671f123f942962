-- The places in use are lent as a part, carried down, and settled.
use Rattle.step.proofs.FirstPlace.{shift_places}
use Rattle.step.proofs.Settling.{whole_step}
use Rattle.step.proofs.shift.Goals as goal

pub returns : goal.returns
returns c = whole_step c.in_use-used.ensures (shift_places c.carry_all-carried.ensures) c.settle.ensures
