-- The frames that are not absent are those held.
use Rattle.std.proofs.Common.{rules}
use Rattle.row_theory.proofs.TestStepLaws.{held_counted}
use Rattle.row.proofs.testing.held_in.Goals as goal

pub returns : goal.returns
returns c = held_counted c.args.states.now (search rules)
