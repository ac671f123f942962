-- The references lent are the first of the trace, and what they leave is the run after them.
use Rattle.std.proofs.Common.{refl}
use Rattle.count.specs.RunLaws.{followed}
use Rattle.count.proofs.runs.follow.Goals as goal

pub returns : goal.returns
returns c = followed c.requires refl (rw c.from.ensures at c.refer_all.ensures)
