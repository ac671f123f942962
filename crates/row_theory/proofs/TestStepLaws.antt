-- What each step of the test of a row answers (TestSteps): what code reads decides its part of the test.
use Rattle.std.specs.Prelude.{ℕ, zero, suc, ◌<◌, ◌≤◌, ◌≡◌, refl, Bool, true, false, cond, List, [], ◌∷◌, leb, ltb, eqb}
use Rattle.std.specs.Prelude.{length, not, count_by}
use Rattle.std.proofs.Common.{not-suc-le-zero, le_of_suc-le-suc, arith, sym, ◌∙◌, eq-eqb}
use Rattle.std.proofs.Common.{ne_eqb, lt-ltb, le-ltb, le-leb, ltb-true}
use Rattle.std.proofs.lemmas.Bool.{lt-leb}
use Rattle.std.proofs.lemmas.List.Recursion.{is_count_by}
use Rattle.std.proofs.lemmas.Bool.Decides.{nat_tests}
use Rattle.std.proofs.Math.ListN.{get_or-eq_default, get_or}
use Rattle.rules.specs.Limits.{frames}
use Rattle.rules.specs.Limits
use Rattle.rules.specs.Cases.{by_cases}
use Rattle.row_theory.specs.States.{absent, busy, state_of, held_bit, held_in}
use Rattle.row_theory.specs.Slots.{empty, frames_in}
use Rattle.row_theory.specs.RowTest.{nowhere, slot_sound, frame_sound, place_sound, room_sound}
use Rattle.row_theory.specs.TestSteps.{SlotTested, PlaceTested, FrameTested, RoomTested}

-- what is read within a list does not depend on what is read past its end
inside_reads : (l : List ℕ) (i d e : ℕ) → i < length l → get_or l i d ≡ get_or l i e
inside_reads [] i d e inside = absurd (not-suc-le-zero inside)
inside_reads (x ∷ l) zero d e inside = refl
inside_reads (x ∷ l) (suc i) d e inside = inside_reads l i d e (le_of_suc-le-suc inside)

-- one slot
pub slot_tested : {slots : List ℕ} {front slot : ℕ} {r : Bool} → length slots ≡ Limits.slots → slot < Limits.slots →
    r ≡ cond (ltb (get_or slots slot 0) frames) (leb front slot) (eqb (get_or slots slot 0) empty) → SlotTested slots front slot r
unfolding slot_sound
slot_tested {slots} {front} {slot} long low is =
    let same = inside_reads slots slot 0 empty (omega arith) in
    record { is = rw (← same) is }

-- one frame's place
pub place_tested : {slots places : List ℕ} {frame at : ℕ} {r : Bool} → length slots ≡ Limits.slots →
    (get_or places frame 0 < nowhere → at ≡ get_or places frame 0) →
    r ≡ cond (ltb (get_or places frame 0) nowhere) (eqb (get_or slots at 0) frame) true → PlaceTested slots places frame r
unfolding place_sound
place_tested {slots} {places} {frame} {at} long there is =
    let place = get_or places frame 0 in
    record {
      is =
          is
          ∙ by_cases (ltb place nowhere)
          (λ e. let low : place < nowhere = ltb-true place nowhere e in
          rw (e, there low, inside_reads slots place 0 empty (omega arith)))
          (λ e. rw e);
    }

-- one frame
module _ {places states : List ℕ} {frame : ℕ} where
  pub frame_out : state_of states frame ≡ absent → FrameTested places states frame (eqb (get_or places frame 0) nowhere)
  frame_out is = record { is = unfold frame_sound in rw (eq-eqb (state_of states frame) absent is) }

  pub frame_unknown : busy < state_of states frame → FrameTested places states frame false
  frame_unknown past =
      record {
        is =
            unfold frame_sound in
            rw (ne_eqb (state_of states frame) absent (λ e. omega arith), lt-leb (state_of states frame) busy past);
      }

  pub frame_there : (state_of states frame ≡ absent → ⊥) → state_of states frame ≤ busy →
      FrameTested places states frame (ltb (get_or places frame 0) nowhere)
  frame_there here known =
      record {
        is =
            unfold frame_sound in
            rw (ne_eqb (state_of states frame) absent here, le-leb (state_of states frame) busy known);
      }

-- the room
module _ {slots : List ℕ} {front held : ℕ} where
  pub room_left : held < Limits.held → RoomTested slots front held true
  room_left few =
      record {
        is =
            unfold room_sound in
            by_cases (ltb (get_or slots front empty) frames) (λ e. rw (e, le-leb held Limits.held (omega arith)))
            (λ e. rw e (grind (arith, nat_tests)));
      }

  pub room_past : length slots ≡ Limits.slots → Limits.held ≤ held → Limits.slots ≤ front → RoomTested slots front held false
  unfolding room_sound
  room_past long many past =
      let none : get_or slots front empty ≡ empty = get_or-eq_default slots empty {n = front} (omega arith) in
      record { is = rw none (grind (arith, nat_tests)) }

  pub room_gap : length slots ≡ Limits.slots → front < Limits.slots → Limits.held ≤ held → frames ≤ get_or slots front 0 →
      RoomTested slots front held false
  room_gap long low many gap =
      let same = inside_reads slots front 0 empty (omega arith) in
      record { is = unfold room_sound in rw (← same, le-ltb (get_or slots front 0) frames gap, le-ltb held Limits.held many) }

  pub room_full : length slots ≡ Limits.slots → front < Limits.slots → get_or slots front 0 < frames →
      RoomTested slots front held (leb held Limits.held)
  room_full long low full =
      let same = inside_reads slots front 0 empty (omega arith) in
      record { is = unfold room_sound in rw (← same, lt-ltb (get_or slots front 0) frames full) }

-- the frames held, and those in the slots, as code counts them
pub held_counted : {n : ℕ} (states : List ℕ) → n ≡ count_by (λ s. not (eqb s absent)) states → n ≡ held_in states
unfolding held_in held_bit
held_counted states counted =
    counted
    ∙ sym
    (is_count_by held_in (λ s. not (eqb s absent)) refl
    (λ s states. by_cases (eqb s absent) (λ e. rw e (omega arith)) (λ e. rw e)) states)

pub full_counted : {n : ℕ} (slots : List ℕ) → n ≡ count_by (λ x. ltb x frames) slots → n ≡ length (frames_in slots)
unfolding frames_in
full_counted slots counted =
    counted
    ∙ sym
    (is_count_by (λ l. length (frames_in l)) (λ x. ltb x frames) refl
    (λ x slots. by_cases (ltb x frames) (λ e. rw e (omega arith)) (λ e. rw e)) slots)
