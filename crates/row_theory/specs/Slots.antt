-- The slots of the row (docs/RULES.md, W1 to W5, W7; Hoogerwoord 1992, section 1): emptying a slot, squeezing, taking a slot,
-- the oldest frame.
use Rattle.std.specs.Prelude.{ℕ, zero, suc, ◌-◌, ◌<◌, ◌≡◌, Bool, cond, ◌&&◌, List, [], ◌∷◌, ◌++◌, ltb, eqb, length, get_or, set}
use Rattle.std.specs.Prelude.{replicate}
use Rattle.rules.specs.Limits.{frames, slots}
use Rattle.row_theory.specs.States.{moves}
use Rattle.row_theory.specs.declared.Event.{Event}
use Rattle.row_theory.specs.declared.Event.TheVariants.{Put, Touch, Start, End, Drop}

-- what an empty slot reads: no frame's number
abbrev pub empty : ℕ
empty = frames

-- W1: the frames in the slots, in the order of slots, most recent first
unfoldable pub frames_in : List ℕ → List ℕ
frames_in [] = []
frames_in (x ∷ row) = cond (ltb x frames) (x ∷ frames_in row) (frames_in row)

-- W1: all slots below a front mark are empty
abbrev pub Clear : ℕ → List ℕ → Type 0
Clear mark row = (i : ℕ) → i < mark → get_or row i empty ≡ empty

-- W4: the frame's slot emptied
unfoldable pub emptied : ℕ → List ℕ → List ℕ
emptied frame [] = []
emptied frame (x ∷ row) = cond (eqb x frame) (empty ∷ row) (x ∷ emptied frame row)

-- the slot of a frame: its first place among the slots, and past the last of them if it has none
unfoldable pub slot_of : ℕ → List ℕ → ℕ
slot_of frame [] = 0
slot_of frame (x ∷ row) = cond (eqb x frame) 0 (suc (slot_of frame row))

-- the slots of so many frames from a number on, and of all frames: a second look at the slots, so that no call searches them
unfoldable pub places_from : ℕ → ℕ → List ℕ → List ℕ
places_from frame zero row = []
places_from frame (suc more) row = slot_of frame row ∷ places_from (suc frame) more row

unfoldable pub places_in : List ℕ → List ℕ
places_in row = places_from 0 frames row

-- W3: the front after squeezing
unfoldable pub squeezed_front : List ℕ → ℕ
squeezed_front row = length row - length (frames_in row)

-- W3: the frames in the slots packed against the last slot, order kept
unfoldable pub squeezed : List ℕ → List ℕ
squeezed row = replicate (squeezed_front row) empty ++ frames_in row

-- W2: the slots and the front just before a frame takes its slot: squeezed if the front is 0
unfoldable pub roomy_slots : List ℕ → ℕ → List ℕ
roomy_slots row front = cond (eqb front 0) (squeezed row) row

unfoldable pub roomy_front : List ℕ → ℕ → ℕ
roomy_front row front = cond (eqb front 0) (squeezed_front row) front

-- W4: a touch or a drop empties its frame's slot
unfoldable pub vacated : Event → ℕ → List ℕ → List ℕ
vacated Put frame row = row
vacated Touch frame row = emptied frame row
vacated Start frame row = row
vacated End frame row = row
vacated Drop frame row = emptied frame row

-- W2, W4: the slots and the front after an accepted call: then, for a put or a touch, the front falls by one and that slot
-- takes the frame
unfoldable pub slots_then : Event → List ℕ → ℕ → ℕ → List ℕ
slots_then event row front frame =
    let left = vacated event frame row in
    cond (moves event) (set (roomy_slots left front) (roomy_front left front - 1) frame) left

unfoldable pub front_then : Event → List ℕ → ℕ → ℕ → ℕ
front_then event row front frame =
    let left = vacated event frame row in
    cond (moves event) (roomy_front left front - 1) front

-- W5: the slots examined by an accepted call
unfoldable pub examined_then : Event → ℕ → ℕ
examined_then event front = cond (moves event && eqb front 0) slots 0

-- is this a frame, and one that passes the test?
unfoldable pub passes : (ℕ → Bool) → ℕ → Bool
passes may x = ltb x frames && may x

-- of two slots' frames the one nearer the old end, if it is a frame
unfoldable pub older : ℕ → ℕ → ℕ
older old young = cond (ltb old frames) old young

-- W7: the frame nearest the old end that passes the test, or `empty` if there is none
unfoldable pub oldest : (ℕ → Bool) → List ℕ → ℕ
oldest may [] = empty
oldest may (x ∷ row) = older (oldest may row) (cond (passes may x) x empty)
