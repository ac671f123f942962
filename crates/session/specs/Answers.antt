-- What each call of a session answers and leaves behind, as functions of what it was given.
use Rattle.std.specs.Prelude.{ℕ, suc, ◌≡◌, ◌≤◌, ◌<◌, List, ◌∷◌, length, replicate, Result, MatchResult}
use Rattle.rules.specs.Limits.{capacities, pages, opt}
use Rattle.rules.specs.Policies.{policy_number}
use Rattle.rules.specs.Refusals.{giving, when_accepted}
use Rattle.rules.specs.declared.policy.Policy.{Policy}
use Rattle.rules.specs.declared.refusal.Refusal.{Refusal}
use Rattle.rules.specs.declared.refusal.Refusal.TheVariants.{BadPolicy}
use Rattle.session.specs.declared.Session.{Session}
use Rattle.session.specs.History.{start_answer, reference_answer, accepted_of, depth_of}
use Rattle.session.specs.Lent.{Lent}
use Rattle.session.specs.Memory.{Given}
use Rattle.session.specs.AnyMemory.{depth_in, after_reference}

-- the policy of a number, if a session takes it
abbrev pub OfSession : ℕ → Result Policy Refusal → Type 0
OfSession number r =
    MatchResult r (λ policy. (policy_number policy ≡ number) × (number < opt)) (λ refusal. (refusal ≡ BadPolicy) × (opt ≤ number))

abbrev pub fresh : ℕ → ℕ → Session
fresh policy k = record { policy = policy; k = k; length = 0; references = 0 }

-- a fresh session and empty tables, or the refusal, no session, and the tables as they were
pub record Starting (policy k : ℕ) (places depths counts places' depths' counts' : List ℕ) (r : Result Session Refusal)
    : Type 0 where
  pub answer : r ≡ giving (start_answer policy k) (fresh policy k)
  pub places_are : places' ≡ when_accepted (start_answer policy k) (replicate capacities 0) places
  pub depths_are : depths' ≡ when_accepted (start_answer policy k) (replicate (suc capacities) 0) depths
  pub counts_are : counts' ≡ when_accepted (start_answer policy k) (replicate pages 0) counts

-- a reference answers its depth or the refusal, and leaves the session with one call more
pub record Referring (before : Lent) (page : ℕ) (after : Lent) (r : Result ℕ Refusal) : Type 0 where
  -- in any memory
  pub depth_is : r ≡ giving (reference_answer before.value.references page) (depth_in before page)
  pub memory_is : after ≡ after_reference before page
  -- in memory that a start and calls gave
  pub answer : (policy k : ℕ) (calls : List ℕ) → Given policy k calls before
      → r ≡ giving (reference_answer (length (accepted_of calls)) page) (depth_of policy k calls page)
  pub next : (policy k : ℕ) (calls : List ℕ) → Given policy k calls before → Given policy k (page ∷ calls) after
