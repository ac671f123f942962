-- A session as it stands in lent memory: its small value, and the three tables beside it.
use Rattle.std.specs.Prelude.{ℕ, List}
use Rattle.session.specs.declared.Session.{Session}

pub record Lent : Type 0 where
  pub value : Session
  pub places : List ℕ
  pub depths : List ℕ
  pub counts : List ℕ

abbrev pub lent_of : Session → List ℕ → List ℕ → List ℕ → Lent
lent_of s places depths counts = record { value = s; places = places; depths = depths; counts = counts }
