-- The frames before this one have left (`DroppedTo`).
use Rattle.row_theory.specs.Promise.{memory}
use Rattle.bank_theory.specs.BankLending.{DroppedTo}
use Rattle.banks.proofs.gating.leave.Given as goal

abbrev pub invariant-loop-frame : goal.invariant-loop-frame
invariant-loop-frame l =
    DroppedTo (memory l.fn.slots l.fn.places l.fn.states l.fn.front l.fn.held) l.first l.frame
    (memory l.slots l.places l.states l.front l.held)
