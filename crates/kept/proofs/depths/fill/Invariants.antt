-- The sums at the capacities so far, the last of them at hand, and the rest of the table as it was.
use Rattle.std.proofs.Common.{◌≡◌}
use Rattle.kept.specs.Tally.{up_to}
use Rattle.kept.specs.Filled.{word, sums}
use Rattle.kept.proofs.depths.fill.Given as goal

abbrev pub invariant-loop-c : goal.invariant-loop-c
invariant-loop-c l = (l.hits ≡ sums l.depths l.c l.fn.hits) × (l.total ≡ word (up_to l.depths l.c))
