-- The references so far were accepted, and they are the session's history.
use Rattle.session.specs.Lent.{lent_of}
use Rattle.replay.proofs.ReplayLaws.{Along}
use Rattle.replay.proofs.refer_all.Given as goal

abbrev pub invariant-loop-i : goal.invariant-loop-i
invariant-loop-i l =
    Along l.fn.s.policy l.fn.s.k l.trace l.i (lent_of l.s l.places l.depths l.counts)
