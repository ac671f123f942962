-- The test of a row (RowTest) is exact: lent memory passes it exactly if a fresh row and calls give it.
use Rattle.std.specs.Prelude.{ℕ, ◌<◌, ◌≡◌, Bool, true, List, leb, ltb, eqb, length}
use Rattle.std.proofs.Common.{arith, sym, ◌∙◌}
use Rattle.std.proofs.Math.Path.{ap}
use Rattle.std.proofs.Math.ListN.{get_or}
use borrow.Author.Tests.{eq-eqb, eqb-true, eqb-false, lt-ltb, ltb-true, ltb-false, le-leb, leb-false}
use Rattle.rules.specs.Limits.{frames}
use Rattle.rules.specs.Limits
use Rattle.rules.specs.Cases.{by_cases}
use Rattle.rules.specs.Lists.{times}
use Rattle.rules.specs.AllBelow.{all_make}
use Rattle.row_theory.specs.States.{absent, busy, state_of, held_bit, held_in}
use Rattle.row_theory.specs.Slots.{empty, frames_in, slot_of}
use Rattle.row_theory.specs.Promise.{Memory, row_in, Stands}
use Rattle.row_theory.specs.RowTest.{nowhere, slot_sound, frame_sound, place_sound, room_sound, row_sound, RowTested}
use Rattle.row_theory.specs.StateLaws.{held_bit_absent}
use Rattle.row_theory.proofs.PlaceLaws.{places_in_length, places_in_at, slot_of_inside, slot_of_there, slot_of_none}
use Rattle.row_theory.proofs.PromiseLaws.{ordered}
use Rattle.row_theory.proofs.Tidy.{Tidy, tidy}
use Rattle.row_theory.proofs.Rebuilt.{rebuilt}
use Rattle.row_theory.specs.TestParts.{Sized}
use Rattle.row_theory.proofs.TestPartLaws.{passed, passes_all}
use Rattle.row_theory.proofs.TestTidy.{held_some, sound_tidy, sound_index}

-- X5: what passes the test is what a fresh row and calls give
pub sound_stands : {m : Memory} → Sized m → row_sound m ≡ true → Stands m
sound_stands {m} sized e =
    let p = passed m e in
    record { reached = rebuilt (sound_tidy sized p); index = sound_index sized p }

-- and what they give passes it
module _ {m : Memory} (stands : Stands m) where
  abbrev it : Tidy (row_in m)
  it = tidy stands.reached

  place_is : (f : ℕ) → f < frames → get_or m.places f 0 ≡ slot_of f m.slots
  place_is f small = ap (λ (l : List ℕ). get_or l f 0) stands.index ∙ places_in_at m.slots f small

  slot_passes : (i : ℕ) → i < Limits.slots → slot_sound m.front m.slots i ≡ true
  unfolding slot_sound
  slot_passes i low =
      let x = get_or m.slots i empty in
      by_cases (ltb x frames)
      (λ e. let small : x < frames = ltb-true x frames e in
      rw e
      (by_cases (leb m.front i) (λ l. l) (λ l. absurd (omega (arith, it.clear i (leb-false m.front i l))))))
      (λ e. rw e (eq-eqb x empty (omega (arith, it.slots i, ltb-false x frames e))))

  frame_passes : (f : ℕ) → f < frames → frame_sound m.places m.states f ≡ true
  unfolding frame_sound
  frame_passes f small =
      let state = state_of m.states f in
      let place = get_or m.places f 0 in
      by_cases (eqb state absent)
      (λ e. let none : times f m.slots ≡ 0 =
      it.once f small ∙ ap held_bit (eqb-true state absent e) ∙ held_bit_absent in
      rw e (eq-eqb place nowhere (place_is f small ∙ slot_of_none f m.slots none ∙ it.long)))
      (λ e. let some : 0 < times f m.slots = omega (arith, it.once f small, held_some state e) in
      let inside : place < nowhere = omega (arith, place_is f small, slot_of_inside f m.slots some, it.long) in
      rw (e, le-leb state busy (it.states f)) (lt-ltb place nowhere inside))

  place_passes : (f : ℕ) → f < frames → place_sound m.slots m.places f ≡ true
  unfolding place_sound
  place_passes f small =
      let place = get_or m.places f 0 in
      by_cases (ltb place nowhere)
      (λ e. let low : place < nowhere = ltb-true place nowhere e in
      let some : 0 < times f m.slots =
      by_cases (eqb (times f m.slots) 0)
      (λ z. let none = slot_of_none f m.slots (eqb-true (times f m.slots) 0 z) in
      absurd (omega (arith, place_is f small, none, it.long)))
      (λ z. omega (arith, eqb-false (times f m.slots) 0 z)) in
      let there = ap (λ (k : ℕ). get_or m.slots k empty) (place_is f small) ∙ slot_of_there f m.slots empty some in
      rw e (eq-eqb (get_or m.slots place empty) f there))
      (λ e. rw e)

  room_passes : room_sound m.slots m.front m.held ≡ true
  unfolding room_sound
  room_passes =
      let x = get_or m.slots m.front empty in
      by_cases (ltb x frames) (λ e. rw e (le-leb m.held Limits.held it.few))
      (λ e. let gap : x ≡ empty = omega (arith, it.slots m.front, ltb-false x frames e) in
      rw e (lt-ltb m.held Limits.held (it.roomy gap)))

  pub stands_sound : row_sound m ≡ true
  stands_sound =
      passes_all
      (record {
        front = le-leb m.front Limits.slots it.inside;
        slots = all_make (slot_sound m.front m.slots) Limits.slots slot_passes;
        frames = all_make (frame_sound m.places m.states) frames frame_passes;
        places = all_make (place_sound m.slots m.places) frames place_passes;
        held = eq-eqb m.held (held_in m.states) it.number;
        full = eq-eqb m.held (length (frames_in m.slots)) (it.number ∙ sym (ordered stands.reached).sound.many);
        room = room_passes;
      })

  pub stands_sized : Sized m
  stands_sized =
      record { slots = it.long; places = ap length stands.index ∙ places_in_length m.slots; states = it.wide }

pub row_tested : {m : Memory} {r : Bool} → Sized m → r ≡ row_sound m → RowTested m r
row_tested sized is =
    record { answer = is; gives = λ e. sound_stands sized (sym is ∙ e); given = λ stands. is ∙ stands_sound stands }
