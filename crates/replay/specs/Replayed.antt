-- What a replay answers: what `count` answers of the same trace. A session cannot look ahead, so OPT is refused as 5 (rule R5).
use Rattle.std.specs.Prelude.{ℕ, ◌≡◌, List, leb, length}
use Rattle.rules.specs.Limits.{opt}
use Rattle.rules.specs.Refusals.{Answer, refuse_if, when_accepted}
use Rattle.rules.specs.declared.refusal.Refusal.TheVariants.{BadPolicy}
use Rattle.count.specs.Count.{count_answer, count_table}

unfoldable pub replay_answer : ℕ → ℕ → ℕ → List ℕ → Answer
replay_answer policy k room trace = refuse_if (leb opt policy) BadPolicy (count_answer policy k room trace)

-- A3: a refusal leaves the table
unfoldable pub replay_table : ℕ → ℕ → List ℕ → List ℕ → List ℕ
replay_table policy k trace table =
    when_accepted (replay_answer policy k (length table) trace) (count_table policy k trace table) table

pub record Replayed (trace : List ℕ) (policy k : ℕ) (before after : List ℕ) (r : Answer) : Type 0 where
  pub answer : r ≡ replay_answer policy k (length before) trace
  pub table : after ≡ replay_table policy k trace before
