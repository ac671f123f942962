-- What holds over any calls of frames and banks from fresh banks (docs/RULES.md, D1, D2, B1 to B6), in the rules' own words.
use Rattle.std.specs.Prelude.{ℕ, ◌*◌, ◌<◌, ◌≤◌, ◌≡◌, refl, true, false, ltb, eqb, Result, Ok, is_ok}
use Rattle.std.proofs.Common.{arith, ◌∙◌, ap, eqb-true, eq-eqb, ltb-true, ltb-false}
use mathlib.Core.List.{List, [], ◌∷◌, reverse_aux, map}
use Rattle.std.proofs.Math.ListN.{get_or-eq_default}
use Rattle.rules.specs.Limits.{frames, banks, bank_frames}
use Rattle.rules.specs.Refusals.{refusal_number}
use Rattle.rules.specs.declared.refusal.Refusal.{Refusal}
use Rattle.rules.specs.declared.refusal.Refusal.TheVariants.{WrongBankState, BankBusy, BadBank, BankNotOpen}
use Rattle.rules.specs.Cases.{by_cases}
use Rattle.row_theory.specs.States.{Call, absent, busy, state_of, entry_number}
use Rattle.row_theory.specs.Row.{Row, victim_among}
use Rattle.row_theory.specs.History.{states_after, VictimIs}
use Rattle.row_theory.specs.Runs.{row_after}
use Rattle.row_theory.proofs.GoodStates.{busy_held}
use Rattle.row_theory.proofs.VictimLaws.{victim_alike}
use Rattle.row_theory.proofs.Theorems.{victim_says, examined_bound}
use Rattle.bank_theory.specs.declared.Gating.{Gating}
use Rattle.bank_theory.specs.declared.Gating.TheVariants.{Close, Cut, Open}
use Rattle.bank_theory.specs.Banks.{Step, of_frame, of_bank, bank_of, in_bank, in_open, off, opened, bank_state, gated_to}
use Rattle.bank_theory.specs.Banks.{gating_refusal, takes, shut, states_under}
use Rattle.bank_theory.specs.BankHistory.{Seen, seen_after, seen_then, moves_under, MayGoUnder, moment_under, VictimSaysUnder}
use Rattle.bank_theory.specs.Gated.{victim_under}
use Rattle.bank_theory.specs.BankRuns.{gated_after, examined_under, row_calls, gated_from}
use Rattle.bank_theory.proofs.Leaving.{state_without}
use Rattle.bank_theory.proofs.BankLaws.{taken, takes_from, takes_number, calm_frame}
use Rattle.bank_theory.proofs.UnderBanks.{same_seen, under_banks, states_under_law}
use Rattle.bank_theory.proofs.BankMoments.{moves_same, examined_same, later_same}
use Rattle.bank_theory.proofs.Powered.{good_under, powered_after}

-- L8, R30 to R33: the rules' own numbers
pub bank_numbers : banks ∷ bank_frames ∷ map refusal_number (WrongBankState ∷ BankBusy ∷ BadBank ∷ BankNotOpen ∷ []) ≡
    4 ∷ 16 ∷ 30 ∷ 31 ∷ 32 ∷ 33 ∷ []
bank_numbers = refl

-- B2 as a table in the rules' own numbers: rows close, cut, open; columns off (0), open (1), closing (2); 30 is the
-- refusal
abbrev each_state : Gating → List (Result ℕ Refusal)
each_state gating = map (gated_to gating) (0 ∷ 1 ∷ 2 ∷ [])

abbrev each_gating : List (List (Result ℕ Refusal))
each_gating = each_state Close ∷ each_state Cut ∷ each_state Open ∷ []

pub gating_table : map (map entry_number) each_gating ≡
    (30 ∷ 2 ∷ 30 ∷ []) ∷ (30 ∷ 30 ∷ 0 ∷ []) ∷ (1 ∷ 30 ∷ 1 ∷ []) ∷ []
unfolding gated_to
gating_table = refl

-- which of them are next states
pub gating_accepts : map (map is_ok) each_gating ≡
    (false ∷ true ∷ false ∷ []) ∷ (false ∷ false ∷ true ∷ []) ∷ (true ∷ false ∷ true ∷ []) ∷ []
unfolding gated_to
gating_accepts = refl

-- what holds of the row alone, whatever its calls, holds of the row under banks
pub of_the_row : (P : Row → Type 0) → ((calls : List Call) → P (row_after calls)) → (history : List Step) →
    P (gated_after history).row
of_the_row P holds history = rw (under_banks history) (holds (row_calls history))

-- B6: no frame of an off bank is held
pub off_empty : (history : List Step) (frame : ℕ) → frame < frames → bank_state (seen_after history).banks (bank_of frame) ≡ off →
    state_of (seen_after history).states frame ≡ absent
off_empty history = (powered_after history).empty

-- what is busy is a frame
busy_small : (history : List Step) (frame : ℕ) → state_of (seen_after history).states frame ≡ busy → frame < frames
busy_small history frame is_busy =
    let states = (seen_after history).states in
    by_cases (ltb frame frames) (ltb-true frame frames)
    (λ e. let past = ltb-false frame frames e in
    absurd (omega (arith, get_or-eq_default states absent {n = frame} (omega (arith, (good_under history).long)))))

-- B6, D1: a busy frame's bank is never off
pub busy_powered : (history : List Step) (frame : ℕ) → state_of (seen_after history).states frame ≡ busy →
    bank_state (seen_after history).banks (bank_of frame) ≡ off → ⊥
busy_powered history frame is_busy isOff = omega (arith, off_empty history frame (busy_small history frame is_busy) isOff)

-- R31, D1: a busy frame is never cut: no cut of its bank is accepted
pub busy_not_cut : (history : List Step) (frame : ℕ) → state_of (seen_after history).states frame ≡ busy →
    gating_refusal (seen_after history).states (seen_after history).banks Cut (bank_of frame) ≡ 0 → ⊥
busy_not_cut history frame is_busy ok =
    let seen = seen_after history in
    let first = bank_of frame * bank_frames in
    let took = taken seen.states seen.banks Cut (bank_of frame) (takes_from seen.states seen.banks Cut (bank_of frame) ok) in
    calm_frame seen.states first bank_frames frame (took.calm refl) (omega arith) (omega arith) is_busy

-- an accepted bank call leaves a busy frame busy
busy_stays_under : (history : List Step) (gating : Gating) (bank frame : ℕ) → state_of (seen_after history).states frame ≡ busy →
    state_of (seen_after (of_bank gating bank ∷ history)).states frame ≡ busy
unfolding seen_after seen_then states_under in_bank
busy_stays_under history Close bank frame is_busy = is_busy
busy_stays_under history Open bank frame is_busy = is_busy
busy_stays_under history Cut bank frame is_busy =
    let seen = seen_after history in
    by_cases (takes seen.states seen.banks Cut bank)
    (λ ok. rw (ok, state_without (in_bank bank) seen.states frame (busy_small history frame is_busy))
    (by_cases (eqb (bank_of frame) bank)
    (λ e. let at : bank_of frame ≡ bank = eqb-true (bank_of frame) bank e in
    let none = eqb-true (gating_refusal seen.states seen.banks Cut bank) 0 (takes_number seen.states seen.banks Cut bank ∙ ok) in
    absurd (busy_not_cut history frame is_busy (rw at none)))
    (λ e. rw e is_busy)))
    (λ refused. rw refused is_busy)

-- D1: whatever the call, a busy frame is not absent after it: it is never dropped and never cut
pub busy_kept_under : (step : Step) (history : List Step) (frame : ℕ) → state_of (seen_after history).states frame ≡ busy →
    state_of (seen_after (step ∷ history)).states frame ≡ absent → ⊥
unfolding seen_after seen_then states_under
busy_kept_under (of_frame call) history frame is_busy gone =
    by_cases (shut (seen_after history).banks call)
    (λ e. omega (arith, rw e at gone))
    (λ e. busy_held (seen_after history).states call (good_under history) frame is_busy (rw e at gone))
busy_kept_under (of_bank gating bank) history frame is_busy gone =
    omega (arith, busy_stays_under history gating bank frame is_busy)

-- B4, D2: the victim is the idle frame of an open bank whose last accepted put or touch came earliest
pub victim_under_says : (history : List Step) → VictimSaysUnder history (victim_under (gated_after history))
unfolding in_open
victim_under_says history =
    let open-banks : (gated_after history).banks ≡ (seen_after history).banks = ap (λ (s : Seen). s.banks) (same_seen history) in
    let calls = row_calls history in
    let may = in_open (seen_after history).banks in
    rw (open-banks, under_banks history, ← states_under_law history)
    (victim_alike (states_after calls) (victim_among may (row_after calls))
    (λ frame go. (rw (← states_under_law history) go.0, eqb-true _ opened go.1))
    (λ frame go. (rw (states_under_law history) go.0, eq-eqb _ opened go.1))
    (later_same history)
    (victim_says calls may))

-- D1: a busy frame is never given as victim
pub busy_no_victim_under : (history : List Step) (frame : ℕ) → state_of (seen_after history).states frame ≡ busy →
    victim_under (gated_after history) ≡ Ok (record { 0 = frame }) → ⊥
busy_no_victim_under history frame is_busy given =
    let says : VictimIs (MayGoUnder history) (moment_under history) frame = rw given at (victim_under_says history) in
    omega (arith, says.may_go.0)

-- B5: with k accepted puts and touches, whatever the calls of banks, the slots examined sum to at most 2k
pub examined_bound_under : (history : List Step) → examined_under history ≤ 2 * moves_under history
examined_bound_under history =
    omega (arith, examined_bound (row_calls history), examined_same history, moves_same history)

-- the calls read forwards give the state of the history read backwards
pub forwards_under : (steps history : List Step) →
    gated_from (gated_after history) steps ≡ gated_after (reverse_aux steps history)
unfolding gated_from gated_after
forwards_under [] history = refl
forwards_under (step ∷ steps) history = forwards_under steps (step ∷ history)
