-- The row that a fresh row and calls give (docs/RULES.md, W1 to W5), latest call first or first call first, and its order by
-- moments.
use Rattle.std.specs.Prelude.{ℕ, ◌+◌, ◌<◌, ◌≤◌, ◌≡◌, List, [], ◌∷◌, get_or, Result}
use Rattle.rules.specs.Limits.{frames, slots}
use Rattle.rules.specs.declared.Frame.{Frame}
use Rattle.rules.specs.declared.refusal.Refusal.{Refusal}
use Rattle.rules.specs.Lists.{times}
use Rattle.row_theory.specs.States.{Call, table_at, held_bit, held_in, verdict_of, refusal_of, accepts, states_then}
use Rattle.row_theory.specs.Slots.{empty, frames_in, emptied, squeezed_front, squeezed, roomy_slots, roomy_front, vacated}
use Rattle.row_theory.specs.Slots.{slots_then, front_then, examined_then, passes, older, oldest}
use Rattle.row_theory.specs.Row.{Row, empty_row, moved, after, reply_of, examined_of, idle_among, victim_among, victim_of}

-- the row that a fresh row and these calls give
unfoldable pub row_after : List Call → Row
row_after [] = empty_row
row_after (call ∷ history) = after (row_after history) call

-- W5: the slots examined by all of these calls
unfoldable pub examined_after : List Call → ℕ
examined_after [] = 0
examined_after (call ∷ history) = examined_of (reply_of (row_after history) call) + examined_after history

-- a row is one that a fresh row and calls give if some history gives it
pub record Reached (row : Row) : Type 0 where
  pub history : List Call
  pub gives : row_after history ≡ row

-- W1, W7: every frame of a list has its moment before a bound
abbrev pub Earlier : (ℕ → ℕ) → ℕ → List ℕ → Type 0
Earlier moment bound list = (frame : ℕ) → 0 < times frame list → moment frame < bound

-- W1: most recent first: along the list each moment comes before those that stand ahead of it
unfoldable pub Recent : (ℕ → ℕ) → List ℕ → Type 0
Recent moment [] = Unit {0}
Recent moment (x ∷ list) = Earlier moment (moment x) list × Recent moment list

-- W3: the frames are packed against the last slot: with the front they make up all slots, and each slot from the front on
-- holds a frame
pub record PackedRow (row : Row) : Type 0 where
  pub sum : row.front + row.held ≡ slots
  pub full : (slot : ℕ) → row.front ≤ slot → slot < slots → get_or row.slots slot empty < frames

-- the row that a fresh row and calls give again, first call first: the row that calls make of a row, and what they answer
unfoldable pub row_from : Row → List Call → Row
row_from row [] = row
row_from row (call ∷ calls) = row_from (after row call) calls

unfoldable pub answers_from : Row → List Call → List (Result ℕ Refusal)
answers_from row [] = []
answers_from row (call ∷ calls) = reply_of row call ∷ answers_from (after row call) calls

-- P9 to P12: what a fresh row answers to these calls, and the victim after them. Whoever unfolds one of the two unfolds all
-- that it computes by
unfoldable pub answers_of : List Call → List (Result ℕ Refusal)
unfolding table_at held_bit held_in verdict_of refusal_of accepts states_then frames_in emptied squeezed_front squeezed
    roomy_slots roomy_front vacated slots_then front_then examined_then empty_row moved after reply_of answers_from
answers_of calls = answers_from empty_row calls

unfoldable pub victim_after_calls : List Call → Result Frame Refusal
unfolding answers_of row_from passes older oldest idle_among victim_among
victim_after_calls calls = victim_of (row_from empty_row calls)
