-- `Packing`: the slots in the midst of the pass; the measure is the slots still to pass.
use Rattle.row_theory.proofs.PackingLaws.{Packing}
use Rattle.row.proofs.slots.squeeze.Given as goal

abbrev pub invariant-loop-i : goal.invariant-loop-i
invariant-loop-i l = Packing l.fn.slots l.slots l.places l.to l.i

abbrev pub decreases-loop-i : goal.decreases-loop-i
decreases-loop-i l = l.i
