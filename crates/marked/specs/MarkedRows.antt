-- The marked cases P9 to P12 (docs/RULES.md, "Cases"): what a fresh row answers to calls, and the victim after them. What is
-- wanted stands in the rules' own numbers.
use Rattle.std.specs.Prelude.{ℕ, suc, ◌≡◌, refl, List, [], ◌∷◌, ◌++◌, map, replicate}
use Rattle.rules.specs.Case.{Case, gotten, wished}
use Rattle.row_theory.specs.States.{Call}
use Rattle.row_theory.specs.Row.{reply_number, examined_of, victim_shown}
use Rattle.row_theory.specs.Runs.{answers_of, victim_after_calls}
use Rattle.row_theory.specs.Promise.{asked}
use Rattle.row_theory.specs.declared.Event.TheVariants as event

abbrev put : ℕ → Call
put f = asked event.Put f

abbrev touch : ℕ → Call
touch f = asked event.Touch f

abbrev start : ℕ → Call
start f = asked event.Start f

abbrev drop : ℕ → Call
drop f = asked event.Drop f

-- number and frame of the victim after these calls
abbrev victim_at : List Call → List ℕ
victim_at calls = victim_shown (victim_after_calls calls)

-- the numbers of all calls, and the slots that they examined
abbrev numbers_of : List Call → List ℕ
numbers_of calls = map reply_number (answers_of calls)

abbrev examined_by : List Call → List ℕ
examined_by calls = map examined_of (answers_of calls)

abbrev zeros : ℕ → List ℕ
zeros n = replicate n 0

-- puts of n frames, from f on
unfoldable pub puts : ℕ → ℕ → List Call
puts f ℕ.zero = []
puts f (suc n) = put f ∷ puts (suc f) n

-- P9: put 4, put 9, touch 4: victim 9
abbrev calls9 : List Call
calls9 = put 4 ∷ put 9 ∷ touch 4 ∷ []

abbrev pub p9 : Case
p9 = record { got = victim_at calls9 ∷ []; wanted = (0 ∷ 9 ∷ []) ∷ [] }

-- P10: then start 9: victim 4; start 4: 27; drop 9: 23
abbrev calls10 : List Call
calls10 = calls9 ++ (start 9 ∷ start 4 ∷ [])

abbrev pub p10 : Case
p10 =
    record {
      got = victim_at (calls9 ++ (start 9 ∷ [])) ∷ victim_at calls10 ∷ numbers_of (calls10 ++ (drop 9 ∷ [])) ∷ [];
      wanted = (0 ∷ 4 ∷ []) ∷ (27 ∷ 0 ∷ []) ∷ (0 ∷ 0 ∷ 0 ∷ 0 ∷ 0 ∷ 23 ∷ []) ∷ [];
    }

-- P11: put one frame, touch it 63 times: all examined 0; the 64th touch examines 64
abbrev calls11 : List Call
calls11 = put 7 ∷ replicate 64 (touch 7)

abbrev pub p11 : Case
p11 = record { got = numbers_of calls11 ∷ examined_by calls11 ∷ []; wanted = zeros 65 ∷ (zeros 64 ++ (64 ∷ [])) ∷ [] }

-- P12: 32 frames held: a new put gives 25; after a drop it is accepted
abbrev pub p12 : Case
p12 =
    record {
      got = numbers_of (puts 0 32 ++ (put 40 ∷ [])) ∷ numbers_of (puts 0 32 ++ (drop 5 ∷ put 40 ∷ [])) ∷ [];
      wanted = (zeros 32 ++ (25 ∷ [])) ∷ zeros 34 ∷ [];
    }

-- each by itself, so that a case that fails is named
pub p9_holds : gotten p9 ≡ wished p9
unfolding answers_of victim_after_calls
p9_holds = refl

pub p10_holds : gotten p10 ≡ wished p10
unfolding answers_of victim_after_calls
p10_holds = refl

pub p11_holds : gotten p11 ≡ wished p11
unfolding answers_of
p11_holds = refl

pub p12_holds : gotten p12 ≡ wished p12
unfolding answers_of puts
p12_holds = refl
