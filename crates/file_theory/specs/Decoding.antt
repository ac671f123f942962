-- What each file is read as (docs/RULES.md, F2 to F4, O5; R2, R3, R8, R9, R10).
use Rattle.std.specs.Prelude.{ℕ, Bool, true, cond, ◌&&◌, List, [], ◌∷◌, ltb, length, Result, Ok, Err}
use Rattle.rules.specs.Limits.{capacities, references, is_capacity}
use Rattle.rules.specs.Refusals.{Answer, accepted, refuse_if, giving, first_bad_page}
use Rattle.rules.specs.declared.refusal.Refusal.{Refusal}
use Rattle.rules.specs.declared.refusal.Refusal.TheVariants.{TooManyReferences, CutFile, BadCapacities, BytesLeft}
use Rattle.file_theory.specs.Format.{number_at, section_size, section_values, behind_section}

-- O5, for each section: count present (8), count limit (the refusal of who asks), values present (8); then the count
abbrev pub section : ℕ → Refusal → List ℕ → Result ℕ Refusal
section limit over bytes =
    giving
    (refuse_if (ltb (length bytes) 2) CutFile
    (refuse_if (ltb limit (number_at bytes 0)) over
    (refuse_if (ltb (length bytes) (section_size (number_at bytes 0))) CutFile accepted)))
    (number_at bytes 0)

-- R9: each capacity is 1 to the limit and above the one before it; before the first stands 0
unfoldable pub rising : ℕ → List ℕ → Bool
rising before [] = true
rising before (c ∷ cs) = is_capacity c && (ltb before c && rising c cs)

-- O5, after both sections: bytes that remain (10), then the first bad reference (3)
unfoldable pub pages_answer : List ℕ → ℕ → Answer
pages_answer part n =
    refuse_if (ltb (section_size n) (length part)) BytesLeft
    (first_bad_page 0 (section_values n part) accepted)

unfoldable pub pages_of : List ℕ → ℕ → Result (List ℕ) Refusal
pages_of part n = giving (pages_answer part n) (section_values n part)

abbrev pub references_of : List ℕ → Result ℕ Refusal → Result (List ℕ) Refusal
references_of part (Ok n) = pages_of part n
references_of part (Err r) = Err r

-- F3: the part of a file that starts at its reference section
unfoldable pub references_in : List ℕ → Result (List ℕ) Refusal
references_in part = references_of part (section references TooManyReferences part)

-- F4: what an accepted file says
pub record Trace : Type 0 where
  pub caps : List ℕ
  pub refs : List ℕ

abbrev pub with_capacities : List ℕ → Result (List ℕ) Refusal → Result Trace Refusal
with_capacities cs (Ok rs) = Ok (record { caps = cs; refs = rs })
with_capacities cs (Err r) = Err r

unfoldable pub trace_behind : List ℕ → ℕ → Result Trace Refusal
trace_behind file n =
    cond (rising 0 (section_values n file))
    (with_capacities (section_values n file) (references_in (behind_section n file)))
    (Err BadCapacities)

abbrev pub trace_of : List ℕ → Result ℕ Refusal → Result Trace Refusal
trace_of file (Ok n) = trace_behind file n
trace_of file (Err r) = Err r

-- F2 to F4: the whole file
unfoldable pub trace_in : List ℕ → Result Trace Refusal
trace_in file = trace_of file (section capacities BadCapacities file)
