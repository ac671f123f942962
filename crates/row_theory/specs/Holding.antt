-- Slots that hold given frames, none below the front (docs/RULES.md, W1 to W4): what each step of a call leaves of that. The
-- steps are laws of their own, so that what follows from all of them does not depend on their order.
use Rattle.std.specs.Prelude.{ℕ, suc, ◌-◌, ◌<◌, ◌≤◌, ◌≡◌, refl, cond, List, ◌∷◌, eqb, length, set}
use Rattle.std.proofs.Common.{zero-le, arith, ◌∙◌, ap, length-set}
use Rattle.std.proofs.lemmas.Bool.{eqb-false}
use Rattle.rules.specs.Limits.{frames, slots, held}
use Rattle.rules.specs.Cases.{by_cases}
use Rattle.rules.specs.Lists.{without}
use Rattle.row_theory.specs.Slots.{Clear, frames_in, emptied, vacated, roomy_slots, roomy_front}
use Rattle.row_theory.specs.RecentLaws.{fewer}
use Rattle.row_theory.specs.SlotLaws.{squeezed_front_rest, frames_in_emptied, emptied_length, emptied_clear}
use Rattle.row_theory.specs.SlotLaws.{frames_in_squeezed, squeezed_length, squeezed_clear, frames_in_set, set_clear}
use Rattle.row_theory.specs.declared.Event.{Event}
use Rattle.row_theory.specs.declared.Event.TheVariants.{Put, Touch, Start, End, Drop}

-- all slots are there, at least so many of them are below the front and those are empty, and the others hold these frames in
-- this order
pub record Holding (least : ℕ) (row : List ℕ) (front : ℕ) (list : List ℕ) : Type 0 where
  pub long : length row ≡ slots
  pub low : least ≤ front
  pub inside : front ≤ slots
  pub clear : Clear front row
  pub holds : frames_in row ≡ list

-- whatever the list is called, it is the frames in the slots
pub refits : {least : ℕ} {row : List ℕ} {front : ℕ} {list : List ℕ} → Holding least row front list →
    Holding 0 row front (frames_in row)
refits it = record { long = it.long; low = zero-le; inside = it.inside; clear = it.clear; holds = refl }

pub emptied_holding : {least : ℕ} {row : List ℕ} {front : ℕ} {list : List ℕ} (frame : ℕ) → frame < frames →
    Holding least row front list → Holding least (emptied frame row) front (without frame list)
emptied_holding {least} {row} {front} {list} frame small it =
    record {
      long = emptied_length frame row ∙ it.long;
      low = it.low;
      inside = it.inside;
      clear = emptied_clear frame row front small it.clear;
      holds = frames_in_emptied frame row small ∙ ap (without frame) it.holds;
    }

-- W4: a touch or a drop empties its frame's slot
pub vacate_holding : {least : ℕ} {row : List ℕ} {front : ℕ} {list : List ℕ} (event : Event) (frame : ℕ) → frame < frames →
    Holding least row front list → Holding least (vacated event frame row) front (fewer event frame list)
unfolding vacated fewer
vacate_holding Put frame small it = it
vacate_holding Touch frame small it = emptied_holding frame small it
vacate_holding Start frame small it = it
vacate_holding End frame small it = it
vacate_holding Drop frame small it = emptied_holding frame small it

-- the slots that are surely free below the front once a frame has taken its own: many after a squeeze
unfoldable pub spare : ℕ → ℕ
spare front = cond (eqb front 0) (slots - held - 1) 0

-- W2, W3: if the front is 0, squeeze
pub squeeze_holding : {row : List ℕ} {front : ℕ} {list : List ℕ} → length list ≤ held → Holding 0 row front list →
    Holding (suc (spare front)) (roomy_slots row front) (roomy_front row front) list
unfolding spare roomy_slots roomy_front
squeeze_holding {row} {front} {list} few it =
    by_cases (eqb front 0)
    (λ e. let many : length (frames_in row) ≡ length list = ap length it.holds in
    rw e
    (record {
      long = squeezed_length row ∙ it.long;
      low = omega (arith, squeezed_front_rest row, it.long);
      inside = omega (arith, squeezed_front_rest row, it.long);
      clear = squeezed_clear row;
      holds = frames_in_squeezed row ∙ it.holds;
    }))
    (λ e. let above : 0 < front = omega (arith, eqb-false front 0 e) in
    rw e (record { long = it.long; low = above; inside = it.inside; clear = it.clear; holds = it.holds }))

-- W2: the front falls by one, and that slot takes the frame
pub take_holding : {least : ℕ} {row : List ℕ} {front : ℕ} {list : List ℕ} {frame : ℕ} → frame < frames →
    Holding (suc least) row front list → Holding least (set row (front - 1) frame) (front - 1) (frame ∷ list)
take_holding {least} {row} {front} {list} {frame} small it =
    let at : front - 1 < length row = omega (arith, it.low, it.inside, it.long) in
    record {
      long = length-set row (front - 1) frame ∙ it.long;
      low = omega (arith, it.low);
      inside = omega (arith, it.inside);
      clear = set_clear row (front - 1) frame (front - 1) (omega arith) (λ i below. it.clear i (omega arith));
      holds = frames_in_set row (front - 1) frame small at (λ i below. it.clear i (omega (arith, it.low))) ∙
          ap (λ l. frame ∷ l) it.holds;
    }
