-- A session that the caller lends in its parts, as a contract has it: once of what the parts held at a call's entry, and once of
-- what they hold at its exit.
use Rattle.std.specs.Prelude.{ℕ, List}
use Rattle.session.specs.declared.Session.{Session}
use Rattle.session.specs.Lent.{Lent, lent_of}

abbrev pub session_of : ℕ → ℕ → ℕ → ℕ → Session
session_of policy k length references = record { policy = policy; k = k; length = length; references = references }

abbrev pub session_in : ℕ → ℕ → ℕ → ℕ → List ℕ → List ℕ → List ℕ → Lent
session_in policy k length references places depths counts =
    lent_of (session_of policy k length references) places depths counts
