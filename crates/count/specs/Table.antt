-- The hit table of a trace: filled with the sums of a run's depths, it has the hits of the plain caches (rule A4).
use Rattle.std.specs.Prelude.{ℕ, ◌≤◌, ◌≡◌, length, drop}
use native.Mathlib.Omega.{arith}
use Rattle.std.proofs.Common.{◌∙◌, ap}
use mathlib.Core.List.{List, [], ◌++◌, reverse}
use Rattle.std.proofs.Math.ListN.{length-reverse}
use Rattle.rules.specs.Limits.{capacities, references}
use Rattle.rules.specs.Lists.{values_from}
use Rattle.rules.specs.TableLaws.{values_same}
use Rattle.theory.specs.Policy.{policy_of}
use Rattle.theory.specs.Plain.{hits_at, hits_up_to}
use Rattle.theory.proofs.Order.{policy_order}
use Rattle.theory.proofs.Theorem.{hits_by_depth, hits_and_misses}
use Rattle.kept.specs.Tally.{tally, up_to, tally_hits}
use Rattle.kept.specs.Filled.{filled, filled_sums}

-- the sums of a run's depths are the hits of the plain caches
module _ (policy k : ℕ) (low : 1 ≤ k) (high : k ≤ capacities) (trace : List ℕ) where
  sum_is_hits : (c : ℕ) → 1 ≤ c → c ≤ k → up_to (tally (policy_of policy) k (reverse trace) []) c ≡ hits_at policy c trace
  unfolding hits_at
  sum_is_hits c some most =
      tally_hits (policy_of policy) k c (reverse trace) [] (omega arith)
      ∙ hits_by_depth (policy_of policy) (policy_order policy) c k some most (reverse trace) []

  sums_are_hits : values_from (up_to (tally (policy_of policy) k (reverse trace) [])) 1 k ≡ hits_up_to policy k trace
  sums_are_hits =
      values_same (up_to (tally (policy_of policy) k (reverse trace) [])) (λ c. hits_at policy c trace) 1 k
      (λ c some most. sum_is_hits c some (omega arith))

  -- no more hits than references
  sum_small : up_to (tally (policy_of policy) k (reverse trace) []) k ≤ length trace
  unfolding hits_at
  sum_small =
      omega (
        arith,
        sum_is_hits k low (omega arith),
        hits_and_misses (policy_of policy) k (reverse trace) [],
        length-reverse trace,
      )

  -- so a table filled with them has the hits in front, and behind them what stood there
  pub filled_hits : (table : List ℕ) → length trace ≤ references → k ≤ length table
      → filled (tally (policy_of policy) k (reverse trace) []) k table ≡ hits_up_to policy k trace ++ drop k table
  filled_hits table few room =
      filled_sums (tally (policy_of policy) k (reverse trace) []) table k high room (omega (arith, sum_small))
      ∙ ap (λ (l : List ℕ). l ++ drop k table) sums_are_hits
