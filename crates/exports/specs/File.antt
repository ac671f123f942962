-- What the exported file reader promises: the reader's promise, with its answer told in numbers.
use Rattle.std.specs.Prelude.{◌≡◌, List, ℕ, length, set, Result, Ok, Err}
use Rattle.file_theory.specs.Decoding.{Trace}
use Rattle.file_theory.specs.Promises.{overwritten, caps_of, refs_of}
use Rattle.rules.specs.Told.{Told, told_of}
use Rattle.rules.specs.declared.refusal.Refusal.{Refusal}

abbrev pub file_told : Result Trace Refusal → Told
file_told (Ok t) = told_of (Ok 0)
file_told (Err r) = told_of (Err r)

-- an accepted file leaves its two counts
abbrev pub file_counts : Result Trace Refusal → List ℕ → List ℕ
file_counts (Ok t) before = set (set before 0 (length t.caps)) 1 (length t.refs)
file_counts (Err r) before = before

pub record FileTold (outcome : Result Trace Refusal) (caps-before refs-before counts-before : List ℕ) (answer : Told)
    (caps-after refs-after counts-after : List ℕ) : Type 0 where
  pub answered : answer ≡ file_told outcome
  pub caps_table : caps-after ≡ overwritten (caps_of outcome) caps-before
  pub refs_table : refs-after ≡ overwritten (refs_of outcome) refs-before
  pub counts : counts-after ≡ file_counts outcome counts-before
