-- Banks of frames (docs/RULES.md, L8, B1 to B3, O7, O8): which bank a frame lies in, the states of banks, when a call is
-- refused, and what an accepted one makes of the states of frames and banks. Nothing here knows of slots, as the imports
-- show.
use Rattle.std.specs.Prelude.{ℕ, zero, suc, ◌*◌, ◌/◌, Bool, true, false, cond, not, ◌&&◌, ◌||◌, List, leb, ltb, eqb}
use Rattle.std.specs.Prelude.{get_or, replicate, Result, Ok, Err, is_ok}
use Rattle.std.specs.Result.{result_and}
use Rattle.rules.specs.Limits.{frames, bank_frames}
use Rattle.rules.specs.Limits
use Rattle.rules.specs.Refusals.{number_of, bank_not_open}
use Rattle.rules.specs.declared.refusal.Refusal.{Refusal}
use Rattle.rules.specs.declared.refusal.Refusal.TheVariants.{WrongBankState, BankBusy, BadBank}
use Rattle.rules.specs.Lists.{values_from}
use Rattle.row_theory.specs.States.{Call, absent, busy, state_of, refusal_of, states_by, states_then}
use Rattle.row_theory.specs.declared.Event.{Event}
use Rattle.row_theory.specs.declared.Event.TheVariants.{Put, Touch, Start, End, Drop}
use Rattle.bank_theory.specs.declared.Gating.{Gating}
use Rattle.bank_theory.specs.declared.Gating.TheVariants.{Close, Cut, Open}

-- a call to the row under banks: of a frame, or of a bank
pub data Step : Type 0 where
  of_frame : Call → Step
  of_bank : Gating → ℕ → Step

-- L8: the bank that a frame lies in
abbrev pub bank_of : ℕ → ℕ
bank_of frame = frame / bank_frames

unfoldable pub in_bank : ℕ → ℕ → Bool
in_bank bank frame = eqb (bank_of frame) bank

-- B1: the three states of a bank
abbrev pub off : ℕ
off = 0

abbrev pub opened : ℕ
opened = 1

abbrev pub closing : ℕ
closing = 2

-- B1: fresh banks are open
abbrev pub fresh_banks : List ℕ
fresh_banks = replicate Limits.banks opened

-- the state of a bank in the list of all banks' states; a number that is no bank's is off
abbrev pub bank_state : List ℕ → ℕ → ℕ
bank_state banks bank = get_or banks bank off

-- B4: does the frame lie in an open bank?
unfoldable pub in_open : List ℕ → ℕ → Bool
in_open banks frame = eqb (bank_state banks (bank_of frame)) opened

-- B2: the state that a bank call gives a bank in this state, or 30
unfoldable pub gated_to : Gating → ℕ → Result ℕ Refusal
gated_to Close state = cond (eqb state opened) (Ok closing) (Err WrongBankState)
gated_to Cut state = cond (eqb state closing) (Ok off) (Err WrongBankState)
gated_to Open state = cond (not (eqb state opened)) (Ok opened) (Err WrongBankState)

abbrev pub is_cut : Gating → Bool
is_cut Close = false
is_cut Cut = true
is_cut Open = false

-- is one of so many frames, from a number on, busy?
unfoldable pub busy_from : List ℕ → ℕ → ℕ → Bool
busy_from states frame zero = false
busy_from states frame (suc more) = eqb (state_of states frame) busy || busy_from states (suc frame) more

-- R31: is a frame of the bank busy?
abbrev pub busy_in : List ℕ → ℕ → Bool
busy_in states bank = busy_from states (bank * bank_frames) bank_frames

-- O8, the verdict on a bank call: 32, then 30, then 31 for a cut; and if none applies the state that it gives its bank
unfoldable pub gating_verdict : List ℕ → List ℕ → Gating → ℕ → Result ℕ Refusal
gating_verdict states banks gating bank =
    cond (leb Limits.banks bank) (Err BadBank)
    (result_and (gated_to gating (bank_state banks bank))
    (cond (is_cut gating && busy_in states bank) (Err BankBusy) (gated_to gating (bank_state banks bank))))

-- the refusal's number; 0 stands for "no refusal"
unfoldable pub gating_refusal : List ℕ → List ℕ → Gating → ℕ → ℕ
gating_refusal states banks gating bank = number_of (gating_verdict states banks gating bank)

-- is a bank call accepted, and is it an accepted cut?
abbrev pub takes : List ℕ → List ℕ → Gating → ℕ → Bool
takes states banks gating bank = is_ok (gating_verdict states banks gating bank)

abbrev pub cuts : List ℕ → List ℕ → Gating → ℕ → Bool
cuts states banks gating bank = is_cut gating && takes states banks gating bank

-- B3: put and start bring new content into a frame; they need its bank open
abbrev pub needs_open : Event → Bool
needs_open Put = true
needs_open Touch = false
needs_open Start = true
needs_open End = false
needs_open Drop = false

-- R33: is this such a call of a frame that is not among the open ones? A number that is no frame's is the row's to refuse
unfoldable pub shut_out : (ℕ → Bool) → Call → Bool
shut_out opens call = ltb call.frame frames && (needs_open call.event && not (opens call.frame))

-- R33: and so of a frame in a bank that is not open
abbrev pub shut : List ℕ → Call → Bool
shut banks call = shut_out (in_open banks) call

-- O7: 20, then 33, then what the row refuses; 0 stands for "no refusal"
unfoldable pub refusal_under : List ℕ → List ℕ → Step → ℕ
refusal_under states banks (of_frame call) = cond (shut banks call) bank_not_open (refusal_of states call)
refusal_under states banks (of_bank gating bank) = gating_refusal states banks gating bank

-- B2: the states with frames that leave together
unfoldable pub states_without : (ℕ → Bool) → List ℕ → List ℕ
states_without leaves states = values_from (λ frame. cond (leaves frame) absent (state_of states frame)) 0 frames

-- A3: the states of frames and of banks after a call; a refused one leaves both
unfoldable pub states_under : List ℕ → List ℕ → Step → List ℕ
states_under states banks (of_frame call) = cond (shut banks call) states (states_then states call)
states_under states banks (of_bank gating bank) =
    cond (cuts states banks gating bank) (states_without (in_bank bank) states) states

unfoldable pub banks_under : List ℕ → List ℕ → Step → List ℕ
banks_under states banks (of_frame call) = banks
banks_under states banks (of_bank gating bank) = states_by banks bank (gating_verdict states banks gating bank)
