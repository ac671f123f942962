-- Whole traces: which refusal is given (rules O1 and O2), and what the hit table holds afterwards (rule A4).
use Rattle.std.specs.Prelude.{ℕ, not, ◌≡◌, List, [], ◌++◌, leb, ltb, length, drop}
use Rattle.rules.specs.Limits.{policies, references, is_capacity}
use Rattle.rules.specs.Refusals.{Answer, accepted, refuse_if, first_bad_page, when_accepted}
use Rattle.rules.specs.declared.refusal.Refusal.TheVariants.{BadPolicy, BadLimit, TooManyReferences, ShortTable, PastTheTrace}
use Rattle.theory.specs.Plain.{hits_up_to}
use Rattle.theory.specs.OnePass.{list_of}

-- both orders begin with 5, 1, 2
abbrev pub within_limits : ℕ → ℕ → ℕ → Answer → Answer
within_limits policy k count rest =
    refuse_if (leb policies policy) BadPolicy
    (refuse_if (not (is_capacity k)) BadLimit
    (refuse_if (ltb references count) TooManyReferences
    rest))

-- O1: 5, 1, 2, 4, 3
unfoldable pub count_answer : ℕ → ℕ → ℕ → List ℕ → Answer
count_answer policy k room trace =
    within_limits policy k (length trace)
    (refuse_if (ltb room k) ShortTable
    (first_bad_page 0 trace
    accepted))

-- O2: 5, 1, 2, 3, 14
unfoldable pub list_answer : ℕ → ℕ → List ℕ → ℕ → Answer
list_answer policy k trace t =
    within_limits policy k (length trace)
    (first_bad_page 0 trace
    (refuse_if (ltb (length trace) t) PastTheTrace
    accepted))

-- A3, A4: the hits at each capacity, and later entries as they were; a refusal leaves the table
unfoldable pub count_table : ℕ → ℕ → List ℕ → List ℕ → List ℕ
count_table policy k trace table =
    when_accepted (count_answer policy k (length table) trace) (hits_up_to policy k trace ++ drop k table) table

-- M8, A6: the list that is shown; a refusal shows none
unfoldable pub list_shown : ℕ → ℕ → List ℕ → ℕ → List ℕ
list_shown policy k trace t = when_accepted (list_answer policy k trace t) (list_of policy k trace t) []

-- what a count promises
pub record Counted (trace : List ℕ) (policy k : ℕ) (before after : List ℕ) (r : Answer) : Type 0 where
  pub answer : r ≡ count_answer policy k (length before) trace
  pub table : after ≡ count_table policy k trace before
