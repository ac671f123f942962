-- What the test of a row is asked of: memory of the right sizes.
use Rattle.std.specs.Prelude.{◌≡◌, length}
use Rattle.rules.specs.Limits.{frames}
use Rattle.rules.specs.Limits
use Rattle.row_theory.specs.Promise.{Memory}

-- a lent row has as many slots, places and states as its types say
pub record Sized (m : Memory) : Type 0 where
  pub slots : length m.slots ≡ Limits.slots
  pub places : length m.places ≡ frames
  pub states : length m.states ≡ frames
