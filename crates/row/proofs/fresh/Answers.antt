-- What is stored is a fresh row, by computation.
use Rattle.std.specs.Prelude.{refl}
use Rattle.row_theory.specs.Row.{empty_row}
use Rattle.row_theory.specs.Slots.{places_in, places_from, slot_of}
use Rattle.row_theory.proofs.PromiseLaws.{fresh_row_law}
use Rattle.row.proofs.fresh.Goals as goal

pub returns : goal.returns
unfolding empty_row places_in places_from slot_of
returns c = fresh_row_law refl refl
