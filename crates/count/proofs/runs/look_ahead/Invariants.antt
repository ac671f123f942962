-- What the backward pass has found when i references are left.
use Rattle.count.specs.OptLaws.{Ahead}
use Rattle.count.proofs.runs.look_ahead.Given as goal

abbrev pub invariant-loop-i : goal.invariant-loop-i
invariant-loop-i l = Ahead l.trace l.fn.nexts l.i l.nexts l.coming
