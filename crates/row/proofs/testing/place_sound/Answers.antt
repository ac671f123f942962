-- A slot is read and compared, and whether there is a place picks.
use Rattle.row_theory.proofs.TestStepLaws.{place_tested}
use Rattle.row.proofs.testing.place_sound.Goals as goal

pub returns : goal.returns
returns c = place_tested c.requires.0 c.some_slot.ensures.1 c.pick.ensures
