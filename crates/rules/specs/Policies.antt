-- The policies and their numbers (docs/RULES.md, L7, R5).
use Rattle.std.specs.Prelude.{ℕ, ◌≡◌, ◌≤◌, Result, MatchResult}
use Rattle.rules.specs.Limits.{policies, lru, lfu, opt}
use Rattle.rules.specs.declared.policy.Policy.{Policy}
use Rattle.rules.specs.declared.policy.Policy.TheVariants.{Lru, Lfu, Opt}
use Rattle.rules.specs.declared.refusal.Refusal.{Refusal}
use Rattle.rules.specs.declared.refusal.Refusal.TheVariants.{BadPolicy}

abbrev pub policy_number : Policy → ℕ
policy_number Lru = lru
policy_number Lfu = lfu
policy_number Opt = opt

abbrev pub NumberOf : Policy → ℕ → Type 0
NumberOf policy number = number ≡ policy_number policy

-- the policy of a number, or refusal 5 where no policy has it
abbrev pub PolicyOf : ℕ → Result Policy Refusal → Type 0
PolicyOf number r =
    MatchResult r (λ policy. policy_number policy ≡ number) (λ refusal. (refusal ≡ BadPolicy) × (policies ≤ number))
