-- Carrying by comparison: the loop's invariant is a walk in which the larger entry stays.
use Rattle.kept.specs.Entries.{larger}
use Rattle.step.proofs.Walk.{Walk}
use Rattle.step.proofs.carry_lower.Given as goal

abbrev pub invariant-loop-i : goal.invariant-loop-i
invariant-loop-i l = Walk larger l.old l.first l.fn.list l.carried l.i l.list
