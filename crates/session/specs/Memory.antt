-- What a session's value and its three tables hold after a history: all of it, place by place. The tables are those of a
-- run over the references accepted, with nothing still to come.
use Rattle.std.specs.Prelude.{ℕ, ◌≡◌, List, [], length}
use Rattle.rules.specs.Refusals.{accepted}
use Rattle.kept.specs.Memory.{places_after, depths_after, counts_after}
use Rattle.session.specs.declared.Session.{Session}
use Rattle.session.specs.History.{start_answer, accepted_of, list_now}
use Rattle.session.specs.Lent.{Lent}

-- the small value
pub record Value (policy k : ℕ) (calls : List ℕ) (s : Session) : Type 0 where
  pub started : start_answer policy k ≡ accepted
  pub policy_is : s.policy ≡ policy
  pub k_is : s.k ≡ k
  pub length_is : s.length ≡ length (list_now policy k calls)
  pub references_are : s.references ≡ length (accepted_of calls)

-- the list's entries, and 0 behind them
pub record Places (policy k : ℕ) (calls places : List ℕ) : Type 0 where
  pub places_are : places ≡ places_after policy k (accepted_of calls) []

-- how often each depth came
pub record Depths (policy k : ℕ) (calls depths : List ℕ) : Type 0 where
  pub depths_are : depths ≡ depths_after policy k (accepted_of calls) []

-- how often each page was referenced; LRU does not count
pub record Counts (policy : ℕ) (calls counts : List ℕ) : Type 0 where
  pub counts_are : counts ≡ counts_after policy (accepted_of calls)

-- the session and its tables are those that a start with policy and k and these calls give
pub record Gives (policy k : ℕ) (calls : List ℕ) (s : Session) (places depths counts : List ℕ) : Type 0 where
  pub value : Value policy k calls s
  pub list : Places policy k calls places
  pub tallied : Depths policy k calls depths
  pub counted : Counts policy calls counts

-- the same of the memory as one
abbrev pub Given : ℕ → ℕ → List ℕ → Lent → Type 0
Given policy k calls m = Gives policy k calls m.value m.places m.depths m.counts
