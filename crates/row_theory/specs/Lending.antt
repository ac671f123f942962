-- What the steps of a frame call ask of the slots and the places, and what they leave (docs/RULES.md, W2 to W5).
use Rattle.std.specs.Prelude.{ℕ, ◌-◌, ◌<◌, ◌≤◌, ◌≡◌, List, length, set}
use Rattle.rules.specs.Limits.{frames, held}
use Rattle.rules.specs.Limits
use Rattle.rules.specs.Lists.{times}
use Rattle.row_theory.specs.Slots.{frames_in, emptied, squeezed_front, squeezed, places_in, roomy_slots, roomy_front}
use Rattle.row_theory.specs.Slots.{slots_then, front_then, examined_then}
use Rattle.row_theory.specs.Holding.{Holding}
use Rattle.row_theory.specs.StepLaws.{Ready}
use Rattle.row_theory.specs.declared.Event.{Event}
use Rattle.row_theory.specs.declared.Event.TheVariants.{Put}

-- slots with no frame twice, and their places
pub record Indexed (slots places : List ℕ) : Type 0 where
  pub long : length slots ≡ Limits.slots
  pub once : (frame : ℕ) → frame < frames → times frame slots ≤ 1
  pub index : places ≡ places_in slots

-- W3: the front that a squeeze answers, and what it leaves
pub record SqueezedNow (slots : List ℕ) (top : ℕ) (slots' places' : List ℕ) : Type 0 where
  pub front : top ≡ squeezed_front slots
  pub row : slots' ≡ squeezed slots
  pub index : places' ≡ places_in (squeezed slots)

-- a frame has taken a slot, which becomes the front
pub record TakenSlot (slots places : List ℕ) (at frame : ℕ) (slots' places' : List ℕ) (front' : ℕ) : Type 0 where
  pub row : slots' ≡ set slots at frame
  pub index : places' ≡ set places frame at
  pub mark : front' ≡ at

-- W4: a frame's slot is emptied
pub record LeftSlot (slots : List ℕ) (frame : ℕ) (slots' places' : List ℕ) : Type 0 where
  pub row : slots' ≡ emptied frame slots
  pub index : places' ≡ places_in (emptied frame slots)

-- a frame that is not in the slots can take one
pub record Seatable (slots places : List ℕ) (front frame : ℕ) : Type 0 where
  pub indexed : Indexed slots places
  pub small : frame < frames
  pub fits : Holding 0 slots front (frames_in slots)
  pub few : length (frames_in slots) ≤ held
  pub out : times frame slots ≡ 0

pub record SeatedNow (slots : List ℕ) (front frame examined : ℕ) (slots' places' : List ℕ) (front' : ℕ) : Type 0 where
  pub answer : examined ≡ examined_then Put front
  pub row : slots' ≡ set (roomy_slots slots front) (roomy_front slots front - 1) frame
  pub index : places' ≡ places_in slots'
  pub mark : front' ≡ roomy_front slots front - 1

-- an accepted call can be done
pub record Shiftable (event : Event) (slots places : List ℕ) (front frame : ℕ) : Type 0 where
  pub indexed : Indexed slots places
  pub ready : Ready event slots front frame

pub record Shifted (event : Event) (slots : List ℕ) (front frame examined : ℕ) (slots' places' : List ℕ) (front' : ℕ)
    : Type 0 where
  pub answer : examined ≡ examined_then event front
  pub row : slots' ≡ slots_then event slots front frame
  pub index : places' ≡ places_in slots'
  pub mark : front' ≡ front_then event slots front frame
