-- Policies that look back only, LRU and LFU: what is still to come changes nothing, so a session needs no future.
use Rattle.std.specs.Prelude.{ℕ, ◌<◌, ◌≡◌, eqb}
use Rattle.std.proofs.Common.{arith, eqb-true}
use Rattle.std.proofs.Math.Path.{refl}
use mathlib.Core.List.{List, [], ◌∷◌}
use Rattle.std.proofs.lemmas.Bool.{eqb-false}
use Rattle.rules.specs.Limits as limits
use Rattle.rules.specs.Cases.{by_cases}
use Rattle.theory.specs.Priority.{Policy}
use Rattle.theory.specs.Policy.{lru, lfu, policy_of}
use Rattle.theory.specs.OnePass.{list_after}
use Rattle.kept.specs.Rankings.{unranked, frequency, ranking_of}
use Rattle.kept.specs.Tally.{tally}

abbrev pub PastOnly : Policy → Type 0
PastOnly policy = (past to to' : List ℕ) → policy past to ≡ policy past to'

-- one fact for LRU and one for LFU make a fact for each policy of a session
either : (policy : ℕ) → policy < limits.opt → (P : ℕ → Type 0) → P limits.lru → P limits.lfu → P policy
either policy back P a b =
    by_cases (eqb policy limits.lru) (λ e. rw (eqb-true policy limits.lru e) a)
    (λ e. let one : policy ≡ limits.lfu = omega (arith, eqb-false policy limits.lru e) in rw one b)

pub policy_past_only : (policy : ℕ) → policy < limits.opt → PastOnly (policy_of policy)
unfolding policy_of lru lfu
policy_past_only policy back = either policy back (λ n. PastOnly (policy_of n)) (λ past to to'. refl) (λ past to to'. refl)

pub ranking_past_only : (policy : ℕ) → policy < limits.opt → (past to to' : List ℕ)
    → ranking_of policy past to ≡ ranking_of policy past to'
unfolding ranking_of unranked frequency
ranking_past_only policy back =
    either policy back (λ n. (past to to' : List ℕ) → ranking_of n past to ≡ ranking_of n past to')
    (λ past to to'. refl) (λ past to to'. refl)

module _ (policy : Policy) (only : PastOnly policy) (k : ℕ) where
  pub list_past_only : (past to to' : List ℕ) → list_after policy k past to ≡ list_after policy k past to'
  unfolding list_after
  list_past_only [] to to' = refl
  list_past_only (x ∷ past) to to' = rw (only past to to', list_past_only past (x ∷ to) (x ∷ to'))

  pub tally_past_only : (past to to' : List ℕ) → tally policy k past to ≡ tally policy k past to'
  unfolding tally
  tally_past_only [] to to' = refl
  tally_past_only (x ∷ past) to to' =
      rw (list_past_only past (x ∷ to) (x ∷ to'), tally_past_only past (x ∷ to) (x ∷ to'))
