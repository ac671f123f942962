-- What the two readers promise: the answer and each lent table after the call (docs/RULES.md, A1, A3, F4).
use Rattle.std.specs.Prelude.{◌≡◌, List, [], ◌++◌, ℕ, length, drop, Result, Ok, Err}
use Rattle.rules.specs.declared.refusal.Refusal.{Refusal}
use Rattle.file_theory.specs.declared.Counts.{Counts}
use Rattle.file_theory.specs.Decoding.{Trace}

-- F4: a table that took some values has them in front, and behind them what stood there
abbrev pub overwritten : List ℕ → List ℕ → List ℕ
overwritten values table = values ++ drop (length values) table

-- a refusal has no values, so it leaves the tables as they were (A3)
abbrev pub values_of : Result (List ℕ) Refusal → List ℕ
values_of (Ok rs) = rs
values_of (Err r) = []

abbrev pub caps_of : Result Trace Refusal → List ℕ
caps_of (Ok t) = t.caps
caps_of (Err r) = []

abbrev pub refs_of : Result Trace Refusal → List ℕ
refs_of (Ok t) = t.refs
refs_of (Err r) = []

-- the answers, as the code's types have them
abbrev pub part_of : Result (List ℕ) Refusal → Result ℕ Refusal
part_of (Ok rs) = Ok (length rs)
part_of (Err r) = Err r

abbrev pub reading_of : Result Trace Refusal → Result Counts Refusal
reading_of (Ok t) = Ok (record { capacities = length t.caps; references = length t.refs })
reading_of (Err r) = Err r

-- a reader of references: what the bytes are read as, its table before, its answer, its table after
pub record PartRead (outcome : Result (List ℕ) Refusal) (before : List ℕ) (answer : Result ℕ Refusal)
    (after : List ℕ) : Type 0 where
  pub answered : answer ≡ part_of outcome
  pub table : after ≡ overwritten (values_of outcome) before

-- a reader of files: what the file is read as, its two tables before, its answer, its two tables after
pub record FileRead (outcome : Result Trace Refusal) (caps-before refs-before : List ℕ) (answer : Result Counts Refusal)
    (caps-after refs-after : List ℕ) : Type 0 where
  pub answered : answer ≡ reading_of outcome
  pub caps_table : caps-after ≡ overwritten (caps_of outcome) caps-before
  pub refs_table : refs-after ≡ overwritten (refs_of outcome) refs-before
