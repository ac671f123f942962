-- What holds over any calls from a fresh row (docs/RULES.md, D1, D2, L5, W1 to W7), in the rules' own words.
use Rattle.std.specs.Prelude.{ℕ, ◌*◌, ◌<◌, ◌≤◌, ◌≡◌, refl, Bool, true, false, cond, ltb, eqb, map, Ok, is_ok}
use Rattle.std.proofs.Common.{arith, sym, ◌∙◌, ap, ltb-true, ltb-false}
use mathlib.Core.List.{List, [], ◌∷◌, reverse_aux}
use Rattle.rules.specs.Limits.{frames, slots, held}
use Rattle.rules.specs.Refusals.{bad_frame, row_full, nothing_held, all_busy, refusal_number, refusal_place}
use Rattle.rules.specs.declared.refusal.Refusal.TheVariants.{NothingHeld, AllBusy}
use Rattle.rules.specs.Lists.{times}
use Rattle.rules.specs.Cases.{by_cases}
use Rattle.row_theory.specs.States.{Call, absent, busy, state_table, state_of, held_bit, held_in, entry_number}
use Rattle.row_theory.specs.Slots.{Clear, frames_in}
use Rattle.row_theory.specs.Row.{reply_of, examined_of, any_frame, victim_among, victim_of}
use Rattle.row_theory.specs.History.{states_after, moment_after, moves_after, MayGo, VictimIs, VictimSays}
use Rattle.row_theory.specs.Runs.{row_after, examined_after, Recent, PackedRow, row_from}
use Rattle.row_theory.specs.SlotLaws.{times_frames_in}
use Rattle.row_theory.proofs.GoodStates.{good_after, busy_held}
use Rattle.row_theory.proofs.SoundRow.{sound_after}
use Rattle.row_theory.proofs.Bound.{paid_after}
use Rattle.row_theory.proofs.SqueezeLaws.{packed_after}
use Rattle.row_theory.proofs.VictimLaws.{oldest_now, oldest_victim, oldest_no_victim}

-- W6: the table in the rules' own numbers, where 0 is absent, 1 idle and 2 busy; and the numbers that stand outside it (R20,
-- R25 to R27)
pub table_numbers : map (map entry_number) state_table ≡
    (1 ∷ 22 ∷ 22 ∷ 22 ∷ 22 ∷ [])
    ∷ (21 ∷ 1 ∷ 2 ∷ 24 ∷ 0 ∷ [])
    ∷ (21 ∷ 2 ∷ 23 ∷ 1 ∷ 23 ∷ [])
    ∷ []
table_numbers = refl

-- which of them are next states
pub table_accepts : map (map is_ok) state_table ≡
    (true ∷ false ∷ false ∷ false ∷ false ∷ [])
    ∷ (false ∷ true ∷ true ∷ false ∷ true ∷ [])
    ∷ (false ∷ true ∷ false ∷ true ∷ false ∷ [])
    ∷ []
table_accepts = refl

pub other_numbers : bad_frame ∷ row_full ∷ nothing_held ∷ all_busy ∷ [] ≡ 20 ∷ 25 ∷ 26 ∷ 27 ∷ []
other_numbers = refl

-- W1: the slots hold exactly the held frames, each once
pub slots_hold : (history : List Call) (frame : ℕ) → frame < frames →
    times frame (row_after history).slots ≡ held_bit (state_of (states_after history) frame)
slots_hold history frame h = sym (times_frames_in frame (row_after history).slots h) ∙ (sound_after history).once frame

-- W1: most recent first
pub slots_order : (history : List Call) → Recent (moment_after history) (frames_in (row_after history).slots)
slots_order history = (sound_after history).order

-- W1: all slots below the front are empty
pub slots_clear : (history : List Call) → Clear (row_after history).front (row_after history).slots
slots_clear history = (sound_after history).fits.clear

-- L5: at most 32 frames are held
pub held_few : (history : List Call) → held_in (states_after history) ≤ held
held_few history = (good_after history).few

-- W3, W4: after a call that squeezed, front and frames held add up to the number of slots, and the frames are packed against
-- the last slot
pub squeeze_packs : (call : Call) (history : List Call) → examined_of (reply_of (row_after history) call) ≡ slots →
    PackedRow (row_after (call ∷ history))
squeeze_packs call history examined = packed_after call history examined

-- W5: with k accepted puts and touches the slots examined sum to at most 2k
pub examined_bound : (history : List Call) → examined_after history ≤ 2 * moves_after history
examined_bound history = (paid_after history).bound

-- R26, R27: the number and the place beside no victim
none_number : (n : ℕ) → refusal_number (cond (eqb n 0) NothingHeld AllBusy) ≡ cond (eqb n 0) nothing_held all_busy
none_number n = by_cases (eqb n 0) (λ e. rw e) (λ e. rw e)

none_place : (n : ℕ) → refusal_place (cond (eqb n 0) NothingHeld AllBusy) ≡ 0
none_place n = by_cases (eqb n 0) (λ e. rw e) (λ e. rw e)

-- W7, R26, R27: what the answer says of the history, whatever frames the caller lets go
pub victim_says : (history : List Call) (may : ℕ → Bool) → VictimSays history may (victim_among may (row_after history))
unfolding victim_among
victim_says history may =
    let oldest = oldest_now history may in
    rw (sound_after history).same_states
    (by_cases (ltb oldest frames)
    (λ e. rw e (oldest_victim history may (ltb-true oldest frames e)))
    (λ e. rw e
    (record {
      none = oldest_no_victim history may (ltb-false oldest frames e);
      number =
          none_number (row_after history).held ∙
          ap (λ (n : ℕ). cond (eqb n 0) nothing_held all_busy) (sound_after history).number;
      place = none_place (row_after history).held;
    })))

-- D2, W7: the row's own victim is the idle frame whose last accepted put or touch came earliest
pub idle_victim_says : (history : List Call) → VictimSays history any_frame (victim_of (row_after history))
idle_victim_says history = victim_says history any_frame

-- D1: a busy frame is never given as victim, whatever frames the caller lets go
pub busy_no_victim : (history : List Call) (may : ℕ → Bool) (frame : ℕ) → state_of (states_after history) frame ≡ busy →
    victim_among may (row_after history) ≡ Ok (record { 0 = frame }) → ⊥
busy_no_victim history may frame is_busy given =
    let says : VictimIs (MayGo history may) (moment_after history) frame = rw given at (victim_says history may) in
    omega (arith, says.may_go.0)

-- D1: and never dropped: whatever the call, a busy frame is not absent after it
pub busy_kept : (call : Call) (history : List Call) (frame : ℕ) → state_of (states_after history) frame ≡ busy →
    state_of (states_after (call ∷ history)) frame ≡ absent → ⊥
unfolding states_after
busy_kept call history frame is_busy gone = busy_held (states_after history) call (good_after history) frame is_busy gone

-- the calls read forwards give the row of the history read backwards
pub forwards : (calls history : List Call) → row_from (row_after history) calls ≡ row_after (reverse_aux calls history)
unfolding row_from row_after
forwards [] history = refl
forwards (call ∷ calls) history = forwards calls (call ∷ history)
