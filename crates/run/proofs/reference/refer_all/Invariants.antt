-- The memory and the last depth are those after the references so far.
use Rattle.run.specs.ReferredAll.{run_memory}
use Rattle.run.proofs.ReferredLaws.{Done}
use Rattle.run.proofs.reference.refer_all.Given as goal

abbrev pub invariant-loop-i : goal.invariant-loop-i
invariant-loop-i l =
    Done l.fn.policy l.k l.pages l.nexts l.left (run_memory l.fn.n l.fn.places l.fn.depths l.fn.counts) l.i l.depth
    (run_memory l.length l.places l.depths l.counts)
