-- The frame row (docs/RULES.md, W1 to W7): its whole state, what each call makes of it, and what each call answers.
use Rattle.std.specs.Prelude.{ℕ, Bool, true, cond, ◌&&◌, List, [], ◌∷◌, ltb, eqb, get_or, replicate, Result, Ok, Err}
use Rattle.std.specs.Result.{result_and}
use Rattle.rules.specs.Limits.{frames}
use Rattle.rules.specs.Limits
use Rattle.rules.specs.Refusals.{number_of, place_of, refusal_number}
use Rattle.rules.specs.declared.Frame.{Frame}
use Rattle.rules.specs.declared.refusal.Refusal.{Refusal}
use Rattle.rules.specs.declared.refusal.Refusal.TheVariants.{NothingHeld, AllBusy}
use Rattle.row_theory.specs.States.{Call, idle, state_of, fresh_states, held_in, verdict_of, accepts, states_then}
use Rattle.row_theory.specs.Slots.{empty, slots_then, front_then, examined_then, oldest}

-- the whole state: the slots, the states of all frames, the front mark, and the number of frames held
pub record Row : Type 0 where
  pub slots : List ℕ
  pub states : List ℕ
  pub front : ℕ
  pub held : ℕ

-- W1: a fresh row holds nothing, and its front is past the last slot
unfoldable pub empty_row : Row
empty_row = record { slots = replicate Limits.slots empty; states = fresh_states; front = Limits.slots; held = 0 }

-- what an accepted call makes of the row
unfoldable pub moved : Row → Call → Row
moved row call =
    record {
      slots = slots_then call.event row.slots row.front call.frame;
      states = states_then row.states call;
      front = front_then call.event row.slots row.front call.frame;
      held = held_in (states_then row.states call);
    }

-- A3: a refusal leaves the row as it was
unfoldable pub after : Row → Call → Row
after row call = cond (accepts row.states call) (moved row call) row

-- A1, W5: what the call answers: the slots examined, or the verdict's refusal
unfoldable pub reply_of : Row → Call → Result ℕ Refusal
reply_of row call = result_and (verdict_of row.states call) (Ok (examined_then call.event row.front))

-- the rules' number of a reply (0: no refusal), its place, and its slots examined
abbrev pub reply_number : Result ℕ Refusal → ℕ
reply_number reply = number_of reply

abbrev pub reply_place : Result ℕ Refusal → ℕ
reply_place reply = place_of reply

abbrev pub examined_of : Result ℕ Refusal → ℕ
examined_of (Ok n) = n
examined_of (Err r) = 0

-- which frames a caller lets go: any, or those that bear this mark in a table of marks
abbrev pub any_frame : ℕ → Bool
any_frame frame = true

abbrev pub givable : ℕ
givable = 1

unfoldable pub has_mark : List ℕ → ℕ → Bool
has_mark marks frame = eqb (get_or marks frame 0) givable

-- W7: a frame that is idle, and that the caller lets go
unfoldable pub idle_among : (ℕ → Bool) → List ℕ → ℕ → Bool
idle_among may states frame = eqb (state_of states frame) idle && may frame

-- R26, R27, W7: the oldest idle frame among those that the caller lets go
unfoldable pub victim_among : (ℕ → Bool) → Row → Result Frame Refusal
victim_among may row =
    let given = oldest (idle_among may row.states) row.slots in
    cond (ltb given frames) (Ok (record { 0 = given })) (Err (cond (eqb row.held 0) NothingHeld AllBusy))

-- W7: the row's own victim
abbrev pub victim_of : Row → Result Frame Refusal
victim_of row = victim_among any_frame row

-- the rules' number of a victim's answer (0: no refusal) and its frame (0 beside a refusal)
abbrev pub victim_shown : Result Frame Refusal → List ℕ
victim_shown (Ok f) = 0 ∷ f.0 ∷ []
victim_shown (Err r) = refusal_number r ∷ 0 ∷ []
