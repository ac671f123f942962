-- The test of a row (RowTest), part by part, and which part decides.
use Rattle.std.specs.Prelude.{◌≤◌, ◌≡◌, Bool, true, false, ◌&&◌, leb, eqb, length}
use Rattle.std.proofs.Common.{sym, eq-eqb, le-leb}
use Rattle.rules.specs.Limits.{frames}
use Rattle.rules.specs.Limits
use Rattle.rules.specs.Cases.{by_cases, and_left, and_right}
use Rattle.rules.specs.AllBelow.{all_below}
use Rattle.row_theory.specs.States.{held_in}
use Rattle.row_theory.specs.Slots.{frames_in}
use Rattle.row_theory.specs.Promise.{Memory}
use Rattle.row_theory.specs.RowTest.{slot_sound, frame_sound, place_sound, room_sound, row_sound}

-- the test, part by part
pub record Passed (m : Memory) : Type 0 where
  pub front : leb m.front Limits.slots ≡ true
  pub slots : all_below (slot_sound m.front m.slots) Limits.slots ≡ true
  pub frames : all_below (frame_sound m.places m.states) frames ≡ true
  pub places : all_below (place_sound m.slots m.places) Limits.frames ≡ true
  pub held : eqb m.held (held_in m.states) ≡ true
  pub full : eqb m.held (length (frames_in m.slots)) ≡ true
  pub room : room_sound m.slots m.front m.held ≡ true

pub passed : (m : Memory) → row_sound m ≡ true → Passed m
unfolding row_sound
passed m e =
    let slotsOk = all_below (slot_sound m.front m.slots) Limits.slots in
    let framesOk = all_below (frame_sound m.places m.states) frames in
    let placesOk = all_below (place_sound m.slots m.places) frames in
    let heldOk = eqb m.held (held_in m.states) in
    let fullOk = eqb m.held (length (frames_in m.slots)) in
    let roomOk = room_sound m.slots m.front m.held in
    let last₂ = fullOk && roomOk in
    let last₃ = heldOk && last₂ in
    let last₄ = placesOk && last₃ in
    let last₅ = framesOk && last₄ in
    let last₆ = slotsOk && last₅ in
    let rest₆ = and_right (leb m.front Limits.slots) last₆ e in
    let rest₅ = and_right slotsOk last₅ rest₆ in
    let rest₄ = and_right framesOk last₄ rest₅ in
    let rest₃ = and_right placesOk last₃ rest₄ in
    let rest₂ = and_right heldOk last₂ rest₃ in
    record {
      front = and_left (leb m.front Limits.slots) last₆ e;
      slots = and_left slotsOk last₅ rest₆;
      frames = and_left framesOk last₄ rest₅;
      places = and_left placesOk last₃ rest₄;
      held = and_left heldOk last₂ rest₃;
      full = and_left fullOk roomOk rest₂;
      room = and_right fullOk roomOk rest₂;
    }

pub passes_all : {m : Memory} → Passed m → row_sound m ≡ true
unfolding row_sound
passes_all p = rw (p.front, p.slots, p.frames, p.places, p.held, p.full, p.room)

-- memory that fails one part fails the test; where the others pass, the last one decides
pub fails : (m : Memory) → (Passed m → ⊥) → false ≡ row_sound m
fails m never = by_cases (row_sound m) (λ e. absurd (never (passed m e))) sym

pub by_room : (m : Memory) {r : Bool} → m.front ≤ Limits.slots →
    all_below (slot_sound m.front m.slots) Limits.slots ≡ true →
    all_below (frame_sound m.places m.states) frames ≡ true →
    all_below (place_sound m.slots m.places) frames ≡ true → m.held ≡ held_in m.states →
    m.held ≡ length (frames_in m.slots) → r ≡ room_sound m.slots m.front m.held → r ≡ row_sound m
unfolding row_sound
by_room m low slotsOk framesOk placesOk heldOk fullOk is =
    rw (
      le-leb m.front Limits.slots low,
      slotsOk,
      framesOk,
      placesOk,
      eq-eqb m.held (held_in m.states) heldOk,
      eq-eqb m.held (length (frames_in m.slots)) fullOk,
    ) is
