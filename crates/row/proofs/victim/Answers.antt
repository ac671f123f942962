-- The states are the marks, so every idle frame bears one.
use Rattle.row_theory.proofs.Scan.{states_as_marks}
use Rattle.row.proofs.victim.Goals as goal

pub returns : goal.returns
returns c = states_as_marks c.victim_among.ensures
