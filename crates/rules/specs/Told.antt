-- An answer told in numbers, as the exported calls do (docs/RULES.md, A1, X1): the refusal's number, 0 for "no refusal", and a
-- value beside it: what an accepted call answers, or the refusal's place.
use Rattle.std.specs.Prelude.{ℕ, Bool, cond, Result, Ok, Err}
use Rattle.rules.specs.Refusals.{unsound, refusal_number, refusal_place}
use Rattle.rules.specs.declared.refusal.Refusal.{Refusal}

pub record Told : Type 0 where
  pub number : ℕ
  pub value : ℕ

abbrev pub told : ℕ → ℕ → Told
told number value = record { number = number; value = value }

-- A1, X1: what is answered, or the refusal
abbrev pub told_of : Result ℕ Refusal → Told
told_of (Ok n) = told 0 n
told_of (Err r) = told (refusal_number r) (refusal_place r)

-- R40: what is told of lent memory that fails the call's test, before anything else
abbrev pub tested_told : Bool → Told → Told
tested_told sound answer = cond sound answer (told unsound 0)
