-- `step::shifting::passed`: each whole block without the old entry is passed over.
use Rattle.std.proofs.Common.{◌*◌}
use Rattle.step.specs.Shifting.{Free}
use Rattle.step.proofs.shifting.passed.Given as goal

abbrev pub invariant-loop-i : goal.invariant-loop-i
invariant-loop-i l = Free l.old (8 * l.i) l.list
