-- The tables have their lengths, so the test is exact.
use Rattle.std.proofs.Common.{rules}
use Rattle.row_theory.proofs.TestLaws.{row_tested}
use Rattle.row.proofs.testing.sound.Goals as goal

pub returns : goal.returns
returns c = row_tested (search rules) c.tested.ensures
