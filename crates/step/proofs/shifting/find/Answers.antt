-- Behind the places passed over the first that has the entry is the first of all.
use Rattle.std.proofs.Common.{sym, ◌∙◌}
use Rattle.step.proofs.Places.{found_behind, missed_behind}
use Rattle.step.proofs.shifting.find.Goals as goal

pub returns-in_err-behind : goal.returns-in_err-behind
returns-in_err-behind c =
    rw c.from_residual.ensures
    (missed_behind c.passed-from.result c.passed-from.ensures (sym c.place_of.ensures ∙ c.in_err-behind.was))

pub returns : goal.returns
returns c =
    found_behind c.passed-from.result c.passed-from.ensures c.in_ok-behind.behind
    (sym c.place_of.ensures ∙ c.in_ok-behind.was)
