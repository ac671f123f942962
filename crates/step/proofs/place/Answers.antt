-- The places in use are lent as a part, placed, and settled.
use Rattle.step.proofs.Settling.{whole_step}
use Rattle.step.proofs.place.Goals as goal

pub returns : goal.returns
returns c = whole_step c.in_use-used.ensures c.place_first-carried.ensures c.settle.ensures
