-- What the steps of a replay ask of the session, and what they leave.
use Rattle.std.specs.Prelude.{ℕ, ◌≤◌, ◌≡◌, List, [], reverse, length}
use Rattle.rules.specs.Limits.{references, pages}
use Rattle.rules.specs.Refusals.{Answer, accepted, first_bad_page}
use Rattle.kept.specs.Below.{Below}
use Rattle.session.specs.declared.Session.{Session}
use Rattle.session.specs.Lent.{Lent}
use Rattle.session.specs.Memory.{Gives, Given}

-- a session that was only started
abbrev pub OnlyStarted : Session → List ℕ → List ℕ → List ℕ → Type 0
OnlyStarted s places depths counts = Gives s.policy s.k [] s places depths counts

-- such a session, with room for the trace
pub record Referable (trace : List ℕ) (m : Lent) : Type 0 where
  pub fresh : OnlyStarted m.value m.places m.depths m.counts
  pub few : length trace ≤ references

-- the first bad page is refused, at its index; where there is none, the trace is the session's history
pub record Followed (trace : List ℕ) (before after : Lent) (r : Answer) : Type 0 where
  pub answer : r ≡ first_bad_page 0 trace accepted
  pub good : r ≡ accepted → Below pages (reverse trace)
  pub given : r ≡ accepted → Given before.value.policy before.value.k (reverse trace) after
