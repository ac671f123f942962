-- The marked cases P7 and P8 of docs/RULES.md: which refusal a whole trace is given, and where. All numbers are the rules' own.
use Rattle.std.specs.Prelude.{ℕ, ◌≡◌, refl, List, [], ◌∷◌}
use Rattle.rules.specs.Case.{Case, gotten, wished}
use Rattle.rules.specs.Refusals.{number_of, place_of, first_bad_page}
use Rattle.count.specs.Count.{count_answer}

-- policy, K, entries in the hit table, trace: the number and the place of the refusal, 0 for none
unfoldable pub refused_as : ℕ → ℕ → ℕ → List ℕ → List ℕ
unfolding count_answer first_bad_page
refused_as policy k room trace = number_of (count_answer policy k room trace) ∷ place_of (count_answer policy k room trace) ∷ []

-- P7: trace 7 1024: refusal 3, place 1; trace 7 1023 is accepted
abbrev pub p7 : Case
p7 =
    record {
      got =
          refused_as 0 1 1 (7 ∷ 1024 ∷ [])
          ∷ refused_as 1 1 1 (7 ∷ 1024 ∷ [])
          ∷ refused_as 2 1 1 (7 ∷ 1024 ∷ [])
          ∷ refused_as 0 1 1 (7 ∷ 1023 ∷ [])
          ∷ refused_as 1 1 1 (7 ∷ 1023 ∷ [])
          ∷ refused_as 2 1 1 (7 ∷ 1023 ∷ [])
          ∷ [];
      wanted = (3 ∷ 1 ∷ []) ∷ (3 ∷ 1 ∷ []) ∷ (3 ∷ 1 ∷ []) ∷ (0 ∷ 0 ∷ []) ∷ (0 ∷ 0 ∷ []) ∷ (0 ∷ 0 ∷ []) ∷ [];
    }

-- P8: K 0 and K 65: refusal 1, also with page 1024 in the trace; K 64 with a table of 63: refusal 4
abbrev pub p8 : Case
p8 =
    record {
      got =
          refused_as 0 0 64 (7 ∷ [])
          ∷ refused_as 0 65 65 (7 ∷ [])
          ∷ refused_as 0 0 64 (7 ∷ 1024 ∷ [])
          ∷ refused_as 0 65 65 (7 ∷ 1024 ∷ [])
          ∷ refused_as 0 64 63 (7 ∷ [])
          ∷ [];
      wanted = (1 ∷ 0 ∷ []) ∷ (1 ∷ 0 ∷ []) ∷ (1 ∷ 0 ∷ []) ∷ (1 ∷ 0 ∷ []) ∷ (4 ∷ 0 ∷ []) ∷ [];
    }

-- each by itself, so that a case that fails is named
pub p7_holds : gotten p7 ≡ wished p7
unfolding refused_as
p7_holds = refl

pub p8_holds : gotten p8 ≡ wished p8
unfolding refused_as
p8_holds = refl
