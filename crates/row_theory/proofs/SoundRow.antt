-- The row after any calls from a fresh one (docs/RULES.md, W1 to W4): it agrees with the history in all that the history says.
use Rattle.std.specs.Prelude.{ℕ, zero, suc, ◌≡◌, true, false, List, [], ◌∷◌, eqb, length, get_or, replicate}
use Rattle.std.proofs.Common.{zero-le, arith, ◌∙◌, eqb-true}
use Rattle.std.proofs.Math.Nat.{le_refl}
use Rattle.std.proofs.Math.Path.{refl, sym}
use Rattle.std.proofs.lemmas.Bool.{eqb-false}
use Rattle.rules.specs.Limits.{frames, slots}
use Rattle.rules.specs.Lists.{times}
use Rattle.rules.specs.Cases.{by_cases}
use Rattle.row_theory.specs.States.{Call, absent, state_of, held_bit, held_in, accepts, states_then, fresh_states}
use Rattle.row_theory.specs.Slots.{empty, frames_in}
use Rattle.row_theory.specs.Row.{Row, empty_row, moved, after}
use Rattle.row_theory.specs.History.{states_after, moment_after}
use Rattle.row_theory.specs.Runs.{row_after, Recent}
use Rattle.row_theory.specs.StateLaws.{accepted, bit_before}
use Rattle.row_theory.specs.Holding.{Holding, refits}
use Rattle.row_theory.specs.RecentLaws.{recent_then, times_then, times_then_other, length_then, Later, recent_then_law}
use Rattle.row_theory.specs.RecentLaws.{recent_same}
use Rattle.row_theory.specs.StepLaws.{Ready, slot_step}
use Rattle.row_theory.proofs.GoodStates.{GoodStates, good_after, states_refused, state_same, state_other, call_effect}
use Rattle.row_theory.proofs.GoodStates.{held_then}
use Rattle.row_theory.proofs.Moments.{later_accepted, moment_refused}

-- a row that agrees with these states and these moments
pub record Sound (row : Row) (states : List ℕ) (moment : ℕ → ℕ) : Type 0 where
  pub same_states : row.states ≡ states
  pub number : row.held ≡ held_in states
  pub fits : Holding 0 row.slots row.front (frames_in row.slots)
  pub once : (frame : ℕ) → times frame (frames_in row.slots) ≡ held_bit (state_of states frame)
  pub many : length (frames_in row.slots) ≡ held_in states
  pub order : Recent moment (frames_in row.slots)

-- an accepted call finds the slots in order
pub ready : {row : Row} {states : List ℕ} {moment : ℕ → ℕ} (call : Call) → Sound row states moment → GoodStates states →
    accepts states call ≡ true → Ready call.event row.slots row.front call.frame
ready {row} {states} call sound good e =
    record {
      small = (accepted states call e).small;
      fits = sound.fits;
      few = omega (arith, sound.many, good.few);
      once = sound.once call.frame ∙ (call_effect states call good e).was;
    }

-- the held bit of every frame after an accepted call
once_then : (states : List ℕ) (call : Call) (list : List ℕ) → GoodStates states → accepts states call ≡ true →
    ((frame : ℕ) → times frame list ≡ held_bit (state_of states frame)) →
    (frame : ℕ) → times frame (recent_then call.event call.frame list) ≡ held_bit (state_of (states_then states call) frame)
once_then states call list good e once frame =
    let fx = call_effect states call good e in
    by_cases (eqb call.frame frame)
    (λ same. rw (← eqb-true call.frame frame same, state_same states call good e)
    (times_then call.event call.frame list (once call.frame ∙ fx.was) ∙ sym fx.becomes))
    (λ other. let ne : call.frame ≡ frame → ⊥ = eqb-false call.frame frame other in
    rw (state_other states call good e frame (λ back. ne (sym back)))
    (times_then_other call.event call.frame frame list ne ∙ once frame))

pub sound_accepted : {row : Row} {states : List ℕ} {m : ℕ → ℕ} (n : ℕ → ℕ) (call : Call) → Sound row states m →
    GoodStates states → accepts states call ≡ true → Later call.event call.frame m n →
    Sound (moved row call) (states_then states call) n
unfolding moved
sound_accepted {row} {states} {m} n call sound good e later =
    let step = slot_step call.event row.slots row.front call.frame (ready call sound good e) in
    let list = frames_in row.slots in
    let before : times call.frame list ≡ bit_before call.event = (ready call sound good e).once in
    let longer = length_then call.event call.frame list before in
    record {
      same_states = rw sound.same_states;
      number = rw sound.same_states;
      fits = refits step;
      once = λ frame. rw step.holds (once_then states call list good e sound.once frame);
      many = rw step.holds (omega (arith, longer, held_then states call good e, sound.many));
      order = rw step.holds (recent_then_law call.event call.frame m n list before later sound.order);
    }

pub sound_refused : {row : Row} {states : List ℕ} {m : ℕ → ℕ} (n : ℕ → ℕ) → ((frame : ℕ) → n frame ≡ m frame) →
    Sound row states m → Sound row states n
sound_refused {row} {states} {m} n same sound =
    record {
      same_states = sound.same_states;
      number = sound.number;
      fits = sound.fits;
      once = sound.once;
      many = sound.many;
      order = recent_same m n (frames_in row.slots) (λ x inside. same x) sound.order;
    }

pub after_accepted : (row : Row) (call : Call) → accepts row.states call ≡ true → after row call ≡ moved row call
unfolding after
after_accepted row call e = rw e

-- A3: a refusal leaves the row as it was
pub after_refused : (row : Row) (call : Call) → accepts row.states call ≡ false → after row call ≡ row
unfolding after
after_refused row call e = rw e

-- every number of a list of so many equal ones
clear_fresh : (n i : ℕ) → get_or (replicate n empty) i empty ≡ empty
clear_fresh zero i = refl
clear_fresh (suc n) zero = refl
clear_fresh (suc n) (suc i) = clear_fresh n i

once_fresh : (n frame : ℕ) → held_bit (get_or (replicate n absent) frame absent) ≡ 0
unfolding held_bit
once_fresh zero frame = refl
once_fresh (suc n) zero = refl
once_fresh (suc n) (suc frame) = once_fresh n frame

sound_fresh : Sound empty_row fresh_states (moment_after [])
unfolding empty_row frames_in times Recent
sound_fresh =
    record {
      same_states = refl;
      number = unfold held_in held_bit in refl;
      fits = record { long = refl; low = zero-le; inside = le_refl slots; clear = λ i below. clear_fresh slots i; holds = refl };
      once = λ frame. sym (once_fresh frames frame);
      many = unfold held_in held_bit in refl;
      order = tt;
    }

-- W1, W7: over any calls from a fresh row
pub sound_after : (history : List Call) → Sound (row_after history) (states_after history) (moment_after history)
unfolding row_after states_after
sound_after [] = sound_fresh
sound_after (call ∷ history) =
    let sound = sound_after history in
    by_cases (accepts (states_after history) call)
    (λ e. rw (after_accepted (row_after history) call (rw sound.same_states e))
    (sound_accepted (moment_after (call ∷ history)) call sound (good_after history) e (later_accepted call history e)))
    (λ e. rw (after_refused (row_after history) call (rw sound.same_states e), states_refused (states_after history) call e)
    (sound_refused (moment_after (call ∷ history)) (λ frame. moment_refused call history frame e) sound))
