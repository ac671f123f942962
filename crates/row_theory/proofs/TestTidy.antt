-- Memory that passes the test of a row (RowTest) holds a tidy row, with the places of its slots.
use Rattle.std.specs.Prelude.{ℕ, zero, suc, ◌<◌, ◌≤◌, ◌≡◌, true, false, List, [], ◌∷◌, leb, ltb, eqb, length, get_or}
use Rattle.std.proofs.Common.{not-suc-le-zero, le_of_suc-le-suc, arith, sym, ◌∙◌, ap, ext_get_or}
use Rattle.std.proofs.Math.ListN.{get_or-eq_default}
use borrow.Author.Tests.{eq-eqb, ne_eqb, eqb-true, eqb-false, lt-ltb, le-ltb, ltb-true, ltb-false, leb-true}
use Rattle.rules.specs.Limits.{frames}
use Rattle.rules.specs.Limits
use Rattle.rules.specs.Cases.{by_cases, and_left, and_right}
use Rattle.rules.specs.Lists.{times}
use Rattle.rules.specs.AllBelow.{all_at}
use Rattle.row_theory.specs.States.{absent, busy, state_of, held_bit, held_in}
use Rattle.row_theory.specs.Slots.{empty, frames_in, slot_of, places_in}
use Rattle.row_theory.specs.Promise.{Memory, row_in}
use Rattle.row_theory.specs.RowTest.{nowhere, slot_sound, frame_sound, place_sound, room_sound}
use Rattle.row_theory.specs.Counting.{times_there}
use Rattle.row_theory.specs.StateLaws.{held_bit_absent}
use Rattle.row_theory.proofs.PlaceLaws.{places_in_length, places_in_at, slot_of_none}
use Rattle.row_theory.proofs.Tidy.{Tidy}
use Rattle.row_theory.proofs.Sums.{all_stand}
use Rattle.row_theory.specs.TestParts.{Sized}
use Rattle.row_theory.proofs.TestPartLaws.{Passed}

-- a number that stands once has the place where it stands
pub slot_of_is : (x : ℕ) (l : List ℕ) (i d : ℕ) → i < length l → get_or l i d ≡ x → times x l ≤ 1 → slot_of x l ≡ i
unfolding slot_of times
slot_of_is x [] i d inside there most = absurd (not-suc-le-zero inside)
slot_of_is x (y ∷ l) zero d inside there most = rw (eq-eqb y x there)
slot_of_is x (y ∷ l) (suc i) d inside there most =
    let some : 0 < times x l = times_there x l i d (le_of_suc-le-suc inside) there in
    by_cases (eqb y x) (λ e. absurd (omega (arith, rw e at most)))
    (λ e. let rest : times x l ≤ 1 = rw e at most in
    rw e (ap suc (slot_of_is x l i d (le_of_suc-le-suc inside) there rest)))

-- what the test says of one slot, of one frame and of its place
record SlotSays (front : ℕ) (slots : List ℕ) (slot : ℕ) : Type 0 where
  pub above : get_or slots slot empty < frames → front ≤ slot
  pub none : frames ≤ get_or slots slot empty → get_or slots slot empty ≡ empty

slot_says : (front : ℕ) (slots : List ℕ) (slot : ℕ) → slot_sound front slots slot ≡ true → SlotSays front slots slot
unfolding slot_sound
slot_says front slots slot e =
    let x = get_or slots slot empty in
    record {
      above = λ small. leb-true front slot (rw (lt-ltb x frames small) at e);
      none = λ past. eqb-true x empty (rw (le-ltb x frames past) at e);
    }

record FrameSays (places states : List ℕ) (frame : ℕ) : Type 0 where
  pub out : state_of states frame ≡ absent → get_or places frame 0 ≡ nowhere
  pub in_slots : (state_of states frame ≡ absent → ⊥) → get_or places frame 0 < nowhere
  pub known : state_of states frame ≤ busy

frame_says : (places states : List ℕ) (frame : ℕ) → frame_sound places states frame ≡ true → FrameSays places states frame
unfolding frame_sound
frame_says places states frame e =
    let state = state_of states frame in
    let place = get_or places frame 0 in
    record {
      out = λ is. eqb-true place nowhere (rw (eq-eqb state absent is) at e);
      in_slots = λ here.
          ltb-true place nowhere
          (and_right (leb state busy) (ltb place nowhere) (rw (ne_eqb state absent here) at e));
      known =
          by_cases (eqb state absent) (λ is. omega (arith, eqb-true state absent is))
          (λ here. leb-true state busy (and_left (leb state busy) (ltb place nowhere) (rw here at e)));
    }

place_says : (slots places : List ℕ) (frame : ℕ) → place_sound slots places frame ≡ true → get_or places frame 0 < nowhere →
    get_or slots (get_or places frame 0) empty ≡ frame
unfolding place_sound
place_says slots places frame e low =
    let place = get_or places frame 0 in
    eqb-true (get_or slots place empty) frame (rw (lt-ltb place nowhere low) at e)

-- a held frame's bit is 1
pub held_some : (state : ℕ) → eqb state absent ≡ false → held_bit state ≡ 1
unfolding held_bit
held_some state e = rw e

-- and of the room
room_few : (slots : List ℕ) (front held : ℕ) → room_sound slots front held ≡ true → held ≤ Limits.held
unfolding room_sound
room_few slots front held e =
    by_cases (ltb (get_or slots front empty) frames) (λ full. leb-true held Limits.held (rw full at e))
    (λ gap. omega (arith, ltb-true held Limits.held (rw gap at e)))

room_gap : (slots : List ℕ) (front held : ℕ) → room_sound slots front held ≡ true → get_or slots front empty ≡ empty →
    held < Limits.held
unfolding room_sound
room_gap slots front held e gap =
    ltb-true held Limits.held (rw (le-ltb (get_or slots front empty) frames (omega arith)) at e)

-- W1, W6: memory that passes holds a row that calls give, with the places of its slots
module _ {m : Memory} (sized : Sized m) (p : Passed m) where
  abbrev at_slot : (i : ℕ) → i < Limits.slots → SlotSays m.front m.slots i
  at_slot i low =
      slot_says m.front m.slots i (all_at (slot_sound m.front m.slots) Limits.slots i low p.slots)

  abbrev at_frame : (f : ℕ) → f < frames → FrameSays m.places m.states f
  at_frame f low =
      frame_says m.places m.states f (all_at (frame_sound m.places m.states) frames f low p.frames)

  -- a held frame stands where its place says
  stands_there : (f : ℕ) → f < frames → (state_of m.states f ≡ absent → ⊥) →
      get_or m.slots (get_or m.places f 0) empty ≡ f
  stands_there f small here =
      place_says m.slots m.places f (all_at (place_sound m.slots m.places) frames f small p.places)
      ((at_frame f small).in_slots here)

  stands_least : (f : ℕ) → f < frames → held_bit (state_of m.states f) ≤ times f m.slots
  unfolding held_bit
  stands_least f small =
      by_cases (eqb (state_of m.states f) absent) (λ e. rw e (omega arith))
      (λ e. let here = eqb-false (state_of m.states f) absent e in
      rw e
      (times_there f m.slots (get_or m.places f 0) empty (omega (arith, (at_frame f small).in_slots here, sized.slots))
      (stands_there f small here)))

  -- and as many stand in the slots as are held
  stands_once : (f : ℕ) → f < frames → times f m.slots ≡ held_bit (state_of m.states f)
  stands_once =
      let held = eqb-true m.held (held_in m.states) p.held in
      let full = eqb-true m.held (length (frames_in m.slots)) p.full in
      all_stand m.slots m.states sized.states (sym full ∙ held) stands_least

  pub sound_tidy : Tidy (row_in m)
  sound_tidy =
      let top = leb-true m.front Limits.slots p.front in
      record {
        long = sized.slots;
        wide = sized.states;
        inside = top;
        clear = λ i low.
            let says = at_slot i (omega arith) in
            by_cases (ltb (get_or m.slots i empty) frames)
            (λ e. absurd (omega (arith, says.above (ltb-true (get_or m.slots i empty) frames e))))
            (λ e. says.none (ltb-false (get_or m.slots i empty) frames e));
        slots = λ i.
            by_cases (ltb i Limits.slots)
            (λ low. let says = at_slot i (ltb-true i Limits.slots low) in
            by_cases (ltb (get_or m.slots i empty) frames)
            (λ e. omega (arith, ltb-true (get_or m.slots i empty) frames e))
            (λ e. omega (arith, says.none (ltb-false (get_or m.slots i empty) frames e))))
            (λ e. let past : length m.slots ≤ i = omega (arith, sized.slots, ltb-false i Limits.slots e) in
            omega (arith, get_or-eq_default m.slots empty {n = i} past));
        states = λ f.
            by_cases (ltb f frames) (λ low. (at_frame f (ltb-true f frames low)).known)
            (λ e. let past : length m.states ≤ f = omega (arith, sized.states, ltb-false f frames e) in
            omega (arith, get_or-eq_default m.states absent {n = f} past));
        once = stands_once;
        number = eqb-true m.held (held_in m.states) p.held;
        few = room_few m.slots m.front m.held p.room;
        roomy = room_gap m.slots m.front m.held p.room;
      }

  pub sound_index : m.places ≡ places_in m.slots
  sound_index =
      ext_get_or 0 m.places (places_in m.slots) (sized.places ∙ sym (places_in_length m.slots))
      (λ f low. let small : f < frames = omega (arith, sized.places) in
      rw (places_in_at m.slots f small)
      (by_cases (eqb (state_of m.states f) absent)
      (λ e. let is = eqb-true (state_of m.states f) absent e in
      let none : times f m.slots ≡ 0 = stands_once f small ∙ ap held_bit is ∙ held_bit_absent in
      (at_frame f small).out is ∙ sym (slot_of_none f m.slots none ∙ sized.slots))
      (λ e. let here = eqb-false (state_of m.states f) absent e in
      let once : times f m.slots ≤ 1 = omega (arith, stands_once f small, held_some (state_of m.states f) e) in
      sym
      (slot_of_is f m.slots (get_or m.places f 0) empty (omega (arith, (at_frame f small).in_slots here, sized.slots))
      (stands_there f small here) once))))
