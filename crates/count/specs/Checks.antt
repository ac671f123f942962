-- The refusals 5, 1 and 2, and what is known where none of them applies.
use Rattle.std.specs.Prelude.{ℕ, ◌≡◌, ◌≤◌, Result, Ok, Err}
use Rattle.rules.specs.Limits.{references, capacities}
use Rattle.rules.specs.Policies.{policy_number}
use Rattle.rules.specs.Refusals.{Answer, accepted}
use Rattle.rules.specs.declared.policy.Policy.{Policy}
use Rattle.rules.specs.declared.refusal.Refusal.{Refusal}
use Rattle.count.specs.Count.{within_limits}

-- what the chain answers where nothing else is asked
abbrev pub limits_answer : ℕ → ℕ → ℕ → Answer
limits_answer policy k count = within_limits policy k count accepted

-- the policy that has the number, or that answer's refusal
abbrev pub Limited : ℕ → ℕ → ℕ → Result Policy Refusal → Type 0
Limited policy k count (Ok p) = (limits_answer policy k count ≡ accepted) × (policy_number p ≡ policy)
Limited policy k count (Err r) = limits_answer policy k count ≡ Err r

-- what is known where none of the three applies
pub record Within (k count : ℕ) : Type 0 where
  pub low : 1 ≤ k
  pub high : k ≤ capacities
  pub few : count ≤ references
