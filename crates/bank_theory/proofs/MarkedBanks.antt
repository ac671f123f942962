-- The marked cases P13 to P15 (docs/RULES.md, "Cases"): what fresh banks answer to calls, and the victim after them. What is
-- wanted stands in the rules' own numbers.
use Rattle.std.specs.Prelude.{ℕ, ◌≡◌, refl, List, [], ◌∷◌, ◌++◌, map, replicate}
use Rattle.rules.specs.Case.{Case, gotten, wished}
use Rattle.row_theory.specs.Row.{reply_number, examined_of, victim_shown}
use Rattle.row_theory.specs.Promise.{asked}
use Rattle.row_theory.specs.declared.Event.TheVariants as event
use Rattle.bank_theory.specs.declared.Gating.TheVariants as gating
use Rattle.bank_theory.specs.Banks.{Step, of_frame, of_bank}
use Rattle.bank_theory.specs.BankRuns.{replies_of, victim_after_steps}

abbrev put : ℕ → Step
put f = of_frame (asked event.Put f)

abbrev touch : ℕ → Step
touch f = of_frame (asked event.Touch f)

abbrev start : ℕ → Step
start f = of_frame (asked event.Start f)

abbrev end : ℕ → Step
end f = of_frame (asked event.End f)

abbrev close : ℕ → Step
close b = of_bank gating.Close b

abbrev cut : ℕ → Step
cut b = of_bank gating.Cut b

abbrev reopen : ℕ → Step
reopen b = of_bank gating.Open b

-- number and frame of the victim after these calls
abbrev victim_at : List Step → List ℕ
victim_at steps = victim_shown (victim_after_steps steps)

abbrev numbers_of : List Step → List ℕ
numbers_of steps = map reply_number (replies_of steps)

abbrev examined_by : List Step → List ℕ
examined_by steps = map examined_of (replies_of steps)

-- P13, the incident: put a frame, start a transfer, close its bank: cut is 31; end: cut is accepted, the frame is gone, and put
-- there is 33. No victim while the frame is in a closing bank (27), and none once it is gone (26)
abbrev incident : List Step
incident = put 20 ∷ start 20 ∷ close 1 ∷ cut 1 ∷ end 20 ∷ cut 1 ∷ touch 20 ∷ put 20 ∷ []

abbrev pub p13 : Case
p13 =
    record {
      got = numbers_of incident ∷ victim_at (put 20 ∷ close 1 ∷ []) ∷ victim_at incident ∷ [];
      wanted = (0 ∷ 0 ∷ 0 ∷ 31 ∷ 0 ∷ 0 ∷ 22 ∷ 33 ∷ []) ∷ (27 ∷ 0 ∷ []) ∷ (26 ∷ 0 ∷ []) ∷ [];
    }

-- P14, the orders of refusals: 30 before 31; 33 before 21, 22 and 23, and after 20; 32 before all
abbrev orders : List Step
orders =
    put 20 ∷ start 20 ∷ cut 1 ∷ reopen 1 ∷ close 1 ∷ close 1 ∷ start 20 ∷ start 21 ∷ put 20 ∷ touch 20 ∷ cut 1 ∷ end 20 ∷ cut 1
    ∷ close 1 ∷ cut 1 ∷ put 64 ∷ reopen 1 ∷ put 20 ∷ close 4 ∷ cut 255 ∷ []

abbrev pub p14 : Case
p14 =
    record {
      got = numbers_of orders ∷ [];
      wanted =
          (0 ∷ 0 ∷ 30 ∷ 30 ∷ 0 ∷ 30 ∷ 33 ∷ 33 ∷ 33 ∷ 0 ∷ 31 ∷ 0 ∷ 0 ∷ 30 ∷ 30 ∷ 20 ∷ 0 ∷ 0 ∷ 32 ∷ 32 ∷ []) ∷ [];
    }

-- P15, a cut neither squeezes nor moves the front: put a frame and touch it 63 times, then the front is 0; cut and open its bank:
-- the next put examines 64
abbrev front : List Step
front = put 7 ∷ (replicate 63 (touch 7) ++ (close 0 ∷ cut 0 ∷ reopen 0 ∷ put 3 ∷ []))

abbrev pub p15 : Case
p15 = record { got = examined_by front ∷ victim_at front ∷ []; wanted = (replicate 67 0 ++ (64 ∷ [])) ∷ (0 ∷ 3 ∷ []) ∷ [] }

-- each by itself, so that a case that fails is named
pub p13_holds : gotten p13 ≡ wished p13
unfolding replies_of victim_after_steps
p13_holds = refl

pub p14_holds : gotten p14 ≡ wished p14
unfolding replies_of
p14_holds = refl

pub p15_holds : gotten p15 ≡ wished p15
unfolding replies_of victim_after_steps
p15_holds = refl
