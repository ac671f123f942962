-- The test of a row (RowTest), step by step as code takes it. Each step answers a part of the test, in a record that shows what
-- it is a test of.
use Rattle.std.specs.Prelude.{ℕ, ◌≡◌, Bool, cond, List, ltb}
use Rattle.rules.specs.Limits.{frames}
use Rattle.row_theory.specs.RowTest.{slot_sound, frame_sound, place_sound, room_sound}

-- one slot
pub record SlotTested (slots : List ℕ) (front slot : ℕ) (r : Bool) : Type 0 where
  pub is : r ≡ slot_sound front slots slot

-- one frame's place: a slot is read in any case, and where the frame has one it is that one
pub record PlaceTested (slots places : List ℕ) (frame : ℕ) (r : Bool) : Type 0 where
  pub is : r ≡ place_sound slots places frame

-- one frame
pub record FrameTested (places states : List ℕ) (frame : ℕ) (r : Bool) : Type 0 where
  pub is : r ≡ frame_sound places states frame

-- the room
pub record RoomTested (slots : List ℕ) (front held : ℕ) (r : Bool) : Type 0 where
  pub is : r ≡ room_sound slots front held

-- 1 for a slot that holds a frame
abbrev pub full_bit : ℕ → ℕ
full_bit x = cond (ltb x frames) 1 0
