-- The slots examined over any calls (docs/RULES.md, W5): at most twice the accepted puts and touches. A squeeze leaves room
-- for 32 moves, its own among them, before the next one: the slots examined and 64 more are at most twice the moves and twice
-- the front.
use Rattle.std.specs.Prelude.{ℕ, suc, ◌+◌, ◌*◌, ◌-◌, ◌≤◌, ◌≡◌, refl, Bool, true, false, cond, ◌&&◌, List, [], ◌∷◌, eqb}
use Rattle.std.proofs.Common.{zero-le, arith, eqb-true}
use Rattle.std.proofs.Math.Dec.{lit≤}
use Rattle.rules.specs.Limits.{slots, held}
use Rattle.rules.specs.Cases.{by_cases}
use Rattle.row_theory.specs.States.{Call, accepts, moves}
use Rattle.row_theory.specs.Slots.{front_then, examined_then}
use Rattle.row_theory.specs.Row.{Row, empty_row, moved, reply_of, examined_of}
use Rattle.row_theory.specs.History.{states_after, moves_last, moves_after}
use Rattle.row_theory.specs.Runs.{row_after, examined_after}
use Rattle.row_theory.specs.StateLaws.{accepted, rejected}
use Rattle.row_theory.specs.Holding.{spare}
use Rattle.row_theory.specs.StepLaws.{spare_then, slot_step, front_stays, front_falls}
use Rattle.row_theory.proofs.GoodStates.{good_after}
use Rattle.row_theory.proofs.SoundRow.{sound_after, ready, after_accepted, after_refused}

-- what a history has paid: the bound, and what the front still owes
pub record Paid (examined moves front : ℕ) : Type 0 where
  pub bound : examined ≤ 2 * moves
  pub credit : examined + slots ≤ 2 * moves + 2 * front

-- the kinds of call: refused or without a move, a move that does not squeeze, a move that squeezes
paid_still : (x k f x' k' f' : ℕ) → Paid x k f → x' ≡ x → k' ≡ k → f' ≡ f → Paid x' k' f'
paid_still x k f x' k' f' paid e₁ e₂ e₃ = record { bound = omega (arith, paid.bound); credit = omega (arith, paid.credit) }

paid_move : (x k f x' k' f' : ℕ) → Paid x k f → x' ≡ x → k' ≡ suc k → suc f' ≡ f → Paid x' k' f'
paid_move x k f x' k' f' paid e₁ e₂ e₃ = record { bound = omega (arith, paid.bound); credit = omega (arith, paid.credit) }

paid_squeeze : (x k f x' k' f' : ℕ) → Paid x k f → f ≡ 0 → x' ≡ slots + x → k' ≡ suc k → slots - held - 1 ≤ f' → Paid x' k' f'
paid_squeeze x k f x' k' f' paid e₀ e₁ e₂ room =
    record { bound = omega (arith, paid.credit); credit = omega (arith, paid.credit) }

examined_accepted : (row : Row) (call : Call) → accepts row.states call ≡ true →
    examined_of (reply_of row call) ≡ examined_then call.event row.front
unfolding reply_of
examined_accepted row call e = rw (accepted row.states call e).next

examined_refused : (row : Row) (call : Call) → accepts row.states call ≡ false → examined_of (reply_of row call) ≡ 0
unfolding reply_of
examined_refused row call e = rw (rejected row.states call e).is

-- W5: exactly an accepted put or touch that finds the front at 0 examines slots, and then 64
pub examined_rule : (row : Row) (call : Call) →
    examined_of (reply_of row call) ≡ cond (accepts row.states call && (moves call.event && eqb row.front 0)) slots 0
examined_rule row call =
    by_cases (accepts row.states call)
    (λ e. rw (examined_accepted row call e, e) (unfold examined_then in refl))
    (λ e. rw (examined_refused row call e, e))

-- the front after an accepted call
front_after : Call → List Call → ℕ
front_after call history = front_then call.event (row_after history).slots (row_after history).front call.frame

-- after a squeeze at least this many slots are free
room_left : (call : Call) (history : List Call) → accepts (states_after history) call ≡ true → moves call.event ≡ true →
    eqb (row_after history).front 0 ≡ true → slots - held - 1 ≤ front_after call history
unfolding front_after spare_then spare
room_left call history e move squeezes =
    let row = row_after history in
    let step = slot_step call.event row.slots row.front call.frame
    (ready call (sound_after history) (good_after history) e) in
    rw (move, squeezes) at step.low

paid_accepted : (call : Call) (history : List Call) → accepts (states_after history) call ≡ true →
    Paid (examined_after history) (moves_after history) (row_after history).front →
    (b : Bool) → moves call.event ≡ b → (z : Bool) → eqb (row_after history).front 0 ≡ z →
    Paid (cond (b && z) slots 0 + examined_after history) (cond b 1 0 + moves_after history) (front_after call history)
unfolding front_after
paid_accepted call history e paid false still z front =
    paid_still _ _ _ _ _ _ paid (omega arith) (omega arith) (front_stays call.event _ _ call.frame still)
paid_accepted call history e paid true move false front =
    paid_move _ _ _ _ _ _ paid (omega arith) (omega arith) (front_falls call.event _ _ call.frame move front)
paid_accepted call history e paid true move true front =
    paid_squeeze _ _ _ _ _ _ paid (eqb-true _ 0 front) (omega arith) (omega arith) (room_left call history e move front)

paid_then : (call : Call) (history : List Call) → Paid (examined_after history) (moves_after history) (row_after history).front →
    Paid (examined_after (call ∷ history)) (moves_after (call ∷ history)) (row_after (call ∷ history)).front
unfolding examined_after moves_after row_after moves_last examined_then moved front_after
paid_then call history paid =
    let row = row_after history in
    let sound = sound_after history in
    by_cases (accepts (states_after history) call)
    (λ e. let yes-row : accepts row.states call ≡ true = rw sound.same_states e in
    rw (examined_accepted row call yes-row, after_accepted row call yes-row, e)
    (paid_accepted call history e paid (moves call.event) refl (eqb row.front 0) refl))
    (λ e. let no_row : accepts row.states call ≡ false = rw sound.same_states e in
    rw (examined_refused row call no_row, after_refused row call no_row, e)
    (paid_still _ _ _ _ _ _ paid (omega arith) (omega arith) refl))

-- W5: over any calls from a fresh row with k accepted puts and touches, the slots examined sum to at most 2k
pub paid_after : (history : List Call) → Paid (examined_after history) (moves_after history) (row_after history).front
paid_after [] = unfold examined_after moves_after row_after empty_row in record { bound = zero-le; credit = lit≤ tt }
paid_after (call ∷ history) = paid_then call history (paid_after history)
