-- The steps of a frame call on lent memory (definitions: Lending): each leaves what the definitions say.
use Rattle.std.specs.Prelude.{ℕ, ◌-◌, ◌<◌, ◌≤◌, ◌≡◌, get_or}
use Rattle.std.proofs.Common.{arith, ◌∙◌, eq-eqb, ne_eqb}
use Rattle.std.proofs.Math.Path.{sym, ap}
use mathlib.Core.List.{List}
use Rattle.std.proofs.Math.ListN.{length, set}
use Rattle.rules.specs.Limits.{frames, slots}
use Rattle.rules.specs.Lists.{times}
use Rattle.row_theory.specs.Slots.{Clear, empty, squeezed_front, squeezed, slot_of, places_in}
use Rattle.row_theory.specs.Slots.{roomy_slots, roomy_front, examined_then}
use Rattle.row_theory.specs.SlotLaws.{frames_in_squeezed, times_frames_in}
use Rattle.row_theory.specs.SlotLaws.{squeezed_front_rest, squeezed_length, squeezed_clear}
use Rattle.row_theory.specs.StateLaws.{held_bit_small}
use Rattle.row_theory.proofs.PlaceLaws.{places_in_at, slot_of_inside, slot_of_there, emptied_place, places_out, places_in_law}
use Rattle.row_theory.specs.Lending.{Indexed, Seatable, SeatedNow, LeftSlot, SqueezedNow, TakenSlot}
use Rattle.row_theory.proofs.PromiseLaws.{Ordered}
use Rattle.row_theory.specs.Row.{Row}

-- W4: emptying a frame's slot: what it reads, and what it leaves
module _ {row places : List ℕ} {frame : ℕ} (indexed : Indexed row places) (small : frame < frames)
    (once : times frame row ≡ 1) where
  some : 0 < times frame row
  some = omega arith

  at : get_or places frame 0 ≡ slot_of frame row
  at = ap (λ (l : List ℕ). get_or l frame 0) indexed.index ∙ places_in_at row frame small

  pub leaving_inside : get_or places frame 0 < slots
  leaving_inside = omega (arith, at, slot_of_inside frame row some, indexed.long)

  pub leaving : LeftSlot row frame (set row (get_or places frame 0) empty) (set places frame slots)
  leaving =
      let inside = slot_of_inside frame row some in
      let out = places_out row (slot_of frame row) frame 0 small inside (slot_of_there frame row 0 some) once in
      record {
        row = ap (λ (k : ℕ). set row k empty) at ∙ sym (emptied_place frame row);
        index =
            sym
            (ap places_in (emptied_place frame row) ∙
            out ∙
            ap (λ (n : ℕ). set (places_in row) frame n) indexed.long ∙
            ap (λ (l : List ℕ). set l frame slots) (sym indexed.index));
      }

-- W2: a frame that takes the last of the clear slots below a front above 0
taken : (row : List ℕ) (front frame : ℕ) → frame < frames → 0 < front → front ≤ length row → Clear front row →
    times frame row ≡ 0 → set (places_in row) frame (front - 1) ≡ places_in (set row (front - 1) frame)
taken row front frame small above inside clear out =
    let there : get_or row (front - 1) empty ≡ empty = clear (front - 1) (omega arith) in
    sym (places_in_law row (front - 1) frame empty small (omega arith) (omega arith) out)

module _ {row places : List ℕ} {front frame : ℕ} (ask : Seatable row places front frame) where
  -- the squeezed front is a slot's number or past the last
  pub squeezed_inside : (0 < squeezed_front row) × (squeezed_front row ≤ slots)
  squeezed_inside = (
    omega (arith, squeezed_front_rest row, ask.few, ask.indexed.long),
    omega (arith, squeezed_front_rest row, ask.indexed.long),
  )

  -- the store alone
  pub seat_storing : {row₂ places₂ : List ℕ} {front₂ : ℕ} → (front ≡ 0 → ⊥) →
      TakenSlot row places (front - 1) frame row₂ places₂ front₂ → SeatedNow row front frame 0 row₂ places₂ front₂
  unfolding roomy_slots roomy_front examined_then
  seat_storing above store =
      let inside : front ≤ length row = omega (arith, ask.fits.inside, ask.fits.long) in
      record {
        answer = rw (ne_eqb front 0 above);
        row = rw (ne_eqb front 0 above) store.row;
        index =
            store.index ∙
            ap (λ (l : List ℕ). set l frame (front - 1)) ask.indexed.index ∙
            taken row front frame ask.small (omega arith) inside ask.fits.clear ask.out ∙
            ap places_in (sym store.row);
        mark = rw (ne_eqb front 0 above) store.mark;
      }

  -- the squeeze, and then the store
  pub seat_squeezing : {room : ℕ} {row₁ places₁ row₂ places₂ : List ℕ} {front₂ : ℕ} → front ≡ 0 →
      SqueezedNow row room row₁ places₁ → TakenSlot row₁ places₁ (room - 1) frame row₂ places₂ front₂ →
      SeatedNow row front frame slots row₂ places₂ front₂
  unfolding roomy_slots roomy_front examined_then
  seat_squeezing {room} {row₁} {places₁} {row₂} {places₂} none squeeze store =
      let top = squeezed_front row in
      let inside : top ≤ length (squeezed row) = omega (arith, squeezed_length row, squeezed_front_rest row) in
      let out : times frame (squeezed row) ≡ 0 =
      sym (times_frames_in frame (squeezed row) ask.small) ∙
      ap (times frame) (frames_in_squeezed row) ∙
      times_frames_in frame row ask.small ∙
      ask.out in
      let whole : row₂ ≡ set (squeezed row) (top - 1) frame = rw (← squeeze.row, ← squeeze.front) store.row in
      record {
        answer = rw (eq-eqb front 0 none);
        row = rw (eq-eqb front 0 none) whole;
        index =
            rw (squeeze.index, squeeze.front) at store.index ∙
            taken (squeezed row) top frame ask.small squeezed_inside.0 inside (squeezed_clear row) out ∙
            ap places_in (sym whole);
        mark = rw (eq-eqb front 0 none, ← squeeze.front) store.mark;
      }

-- a row that calls give has no frame twice
pub indexed : {row : Row} {places : List ℕ} → Ordered row → places ≡ places_in row.slots → Indexed row.slots places
indexed {row} {places} order index =
    record {
      long = order.sound.fits.long;
      once = λ x small.
          let bit = held_bit_small (get_or row.states x 0) in
          omega (arith, times_frames_in x row.slots small, order.sound.once x);
      index = index;
    }
