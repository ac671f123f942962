-- The test of a row in lent memory (docs/RULES.md, X5): each held frame stands where its place says, and as many frames stand in
-- the slots as are held. A row passes it exactly if a fresh row and calls give it (TestLaws).
use Rattle.std.specs.Prelude.{ℕ, ◌≡◌, Bool, true, cond, ◌&&◌, List, leb, ltb, eqb, length, get_or}
use Rattle.rules.specs.Limits.{frames}
use Rattle.rules.specs.Limits
use Rattle.rules.specs.AllBelow.{all_below}
use Rattle.row_theory.specs.States.{absent, busy, state_of, held_in}
use Rattle.row_theory.specs.Slots.{empty, frames_in}
use Rattle.row_theory.specs.Promise.{Memory, Stands}

-- the place of a frame that has no slot
abbrev pub nowhere : ℕ
nowhere = Limits.slots

-- a slot that holds a frame is not below the front; any other reads "empty"
unfoldable pub slot_sound : ℕ → List ℕ → ℕ → Bool
slot_sound front slots slot =
    let frame = get_or slots slot empty in
    cond (ltb frame frames) (leb front slot) (eqb frame empty)

-- a held frame has a place, an absent one has none
unfoldable pub frame_sound : List ℕ → List ℕ → ℕ → Bool
frame_sound places states frame =
    let place = get_or places frame 0 in
    cond (eqb (state_of states frame) absent) (eqb place nowhere)
    (leb (state_of states frame) busy && ltb place nowhere)

-- a frame that has a place stands there
unfoldable pub place_sound : List ℕ → List ℕ → ℕ → Bool
place_sound slots places frame =
    let place = get_or places frame 0 in
    cond (ltb place nowhere) (eqb (get_or slots place empty) frame) true

-- at most 32 frames are held, and fewer where the slot at the front is empty: the frame that filled the row took that slot
unfoldable pub room_sound : List ℕ → ℕ → ℕ → Bool
room_sound slots front held = cond (ltb (get_or slots front empty) frames) (leb held Limits.held) (ltb held Limits.held)

unfoldable pub row_sound : Memory → Bool
row_sound m =
    leb m.front Limits.slots
    && (all_below (slot_sound m.front m.slots) Limits.slots
    && (all_below (frame_sound m.places m.states) frames
    && (all_below (place_sound m.slots m.places) frames
    && (eqb m.held (held_in m.states)
    && (eqb m.held (length (frames_in m.slots))
    && room_sound m.slots m.front m.held)))))

-- what testing a row answers: the test, and so whether a fresh row and calls give the row
pub record RowTested (m : Memory) (r : Bool) : Type 0 where
  pub answer : r ≡ row_sound m
  pub gives : r ≡ true → Stands m
  pub given : Stands m → r ≡ true
