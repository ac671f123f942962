-- What the slot holds picks.
use Rattle.row_theory.proofs.TestStepLaws.{slot_tested}
use Rattle.row.proofs.testing.slot_sound.Goals as goal

pub returns : goal.returns
returns c = slot_tested c.requires.0 c.requires.1 c.pick.ensures
