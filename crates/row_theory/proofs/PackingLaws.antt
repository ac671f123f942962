-- The pass that squeezes (docs/RULES.md, W3), over lent slots and places: what it keeps, and what it has done at its end.
use Rattle.std.specs.Prelude.{ℕ, suc, ◌+◌, ◌-◌, ◌<◌, ◌≤◌, ◌≡◌, refl, cond, List, [], ◌++◌, eqb, length, get_or, set, take, drop}
use Rattle.std.specs.Prelude.{replicate}
use Rattle.std.proofs.Math.Nat.{sub-zero}
use Rattle.std.proofs.Common.{le_refl, arith, sym, ◌∙◌, ap, subst, append-nil, length-set, drop_of_length-le, drop-cons}
use Rattle.std.proofs.Common.{take_all, set-set, eq-eqb, ne_eqb}
use Rattle.rules.specs.Limits.{frames, slots}
use Rattle.rules.specs.Lists.{times}
use Rattle.row_theory.specs.Slots.{empty, frames_in, squeezed_front, squeezed, places_in}
use Rattle.row_theory.specs.Counting.{times_set, times_there}
use Rattle.row_theory.specs.SlotLaws.{frames_in_frame, frames_in_empty, squeezed_front_rest}
use Rattle.row_theory.proofs.PlaceLaws.{places_out, places_in_law, places_same}
use Rattle.row_theory.specs.Lending.{SqueezedNow}
use Rattle.row_theory.proofs.Packing.{packing, pass_empty, pass_frame, old_slot, gap_open}

-- what the pass keeps
pub record Packing (row₀ row places : List ℕ) (to i : ℕ) : Type 0 where
  pub below : i ≤ to
  pub inside : to ≤ slots
  pub shape : row ≡ packing i (to - i) row₀
  pub found : length (frames_in (drop i row₀)) + to ≡ slots
  pub long : length row ≡ slots
  pub index : places ≡ places_in row
  pub counts : (x : ℕ) → x < frames → times x row ≡ times x row₀

pub packing_start : {row places : List ℕ} → length row ≡ slots → places ≡ places_in row → Packing row row places slots slots
unfolding packing frames_in
packing_start {row} long index =
    let all : take slots row ≡ row = take_all slots row (omega arith) in
    let none : drop slots row ≡ [] = drop_of_length-le row {i = slots} (omega arith) in
    record {
      below = le_refl slots;
      inside = le_refl slots;
      shape = sym (rw (all, none) (append-nil row));
      found = rw none;
      long = long;
      index = index;
      counts = λ x small. refl;
    }

-- storing into a slot, as a frame's counts see it: the old and the new number there, of which one may be no frame's
from_frame : (x old : ℕ) (before later : ℕ) → x < frames → later + cond (eqb old x) 1 0 ≡ before + cond (eqb empty x) 1 0 →
    later + cond (eqb old x) 1 0 ≡ before
from_frame x old before later small e = omega (arith, rw (ne_eqb empty x (λ same. omega arith)) at e)

-- one slot down
module _ {row₀ row places : List ℕ} {to : ℕ} (i : ℕ) (long₀ : length row₀ ≡ slots)
    (pack : Packing row₀ row places to (suc i)) where
  there : i < length row₀
  there = omega (arith, pack.below, pack.inside)

  inside : i < length row
  inside = omega (arith, pack.below, pack.inside, pack.long)

  same_slot : get_or row i 0 ≡ get_or row₀ i 0
  same_slot = ap (λ (l : List ℕ). get_or l i 0) pack.shape ∙ old_slot row₀ i (to - suc i) there

  -- emptying it takes its frame out
  emptied_counts : (x : ℕ) → x < frames → times x (set row i empty) + cond (eqb (get_or row i 0) x) 1 0 ≡ times x row₀
  emptied_counts x small =
      from_frame x (get_or row i 0) (times x row) (times x (set row i empty)) small (times_set x row i empty 0 inside) ∙
      pack.counts x small

  -- a slot without a frame
  pub step_empty : frames ≤ get_or row i 0 → Packing row₀ (set row i empty) places to i
  step_empty none =
      let none₀ : frames ≤ get_or row₀ i 0 = rw (← same_slot) none in
      let wider : suc (to - suc i) ≡ to - i = omega (arith, pack.below) in
      record {
        below = omega (arith, pack.below);
        inside = pack.inside;
        shape =
            ap (λ (l : List ℕ). set l i empty) pack.shape ∙
            pass_empty row₀ i (to - suc i) there none₀ ∙
            ap (λ (n : ℕ). packing i n row₀) wider;
        found = rw (drop-cons row₀ i 0 there, frames_in_empty (get_or row₀ i 0) (drop (suc i) row₀) none₀) pack.found;
        long = length-set row i empty ∙ pack.long;
        index = pack.index ∙ sym (places_same row i 0 inside none);
        counts = λ x small.
            omega (arith, rw (ne_eqb (get_or row i 0) x (λ same. omega arith)) at (emptied_counts x small));
      }

  -- a slot with a frame, which goes to the end of the gap
  module _ (once₀ : (x : ℕ) → x < frames → times x row₀ ≤ 1) (small : get_or row i 0 < frames) where
    abbrev frame : ℕ
    frame = get_or row i 0

    abbrev opened : List ℕ
    opened = set row i empty

    last : i + (to - suc i) ≡ to - 1
    last = omega (arith, pack.below)

    hole : get_or opened (to - 1) 0 ≡ empty
    hole =
        rw (← last)
        (ap (λ (l : List ℕ). get_or (set l i empty) (i + (to - suc i)) 0) pack.shape ∙ gap_open row₀ i (to - suc i) there)

    room : to - 1 < length opened
    room = rw (length-set row i empty) (omega (arith, pack.below, pack.inside, pack.long))

    -- the frame stood once, and now nowhere
    one : times frame row ≡ 1
    one = omega (arith, times_there frame row i 0 inside refl, pack.counts frame small, once₀ frame small)

    gone : times frame opened ≡ 0
    gone = omega (arith, rw (eq-eqb frame frame refl) at (emptied_counts frame small), pack.counts frame small, one)

    shape_kept : set opened (to - 1) frame ≡ packing i (to - 1 - i) row₀
    shape_kept =
        let old = packing (suc i) (to - suc i) row₀ in
        ap (λ (l : List ℕ). set (set l i empty) (to - 1) frame) pack.shape ∙
        ap (λ (k : ℕ). set (set old i empty) k frame) (sym last) ∙
        ap (λ (x : ℕ). set (set old i empty) (i + (to - suc i)) x) same_slot ∙
        pass_frame row₀ i (to - suc i) there (rw (← same_slot) small) ∙
        ap (λ (n : ℕ). packing i n row₀) (omega (arith, pack.below))

    places_kept : set places frame (to - 1) ≡ places_in (set opened (to - 1) frame)
    places_kept =
        sym
        (places_in_law opened (to - 1) frame 0 small room (rw hole (le_refl frames)) gone ∙
        ap (λ (l : List ℕ). set l frame (to - 1)) (places_out row i frame 0 small inside refl one) ∙
        set-set (places_in row) frame (length row) (to - 1) ∙
        ap (λ (l : List ℕ). set l frame (to - 1)) (sym pack.index))

    counts_kept_law : (x : ℕ) → x < frames → times x (set opened (to - 1) frame) ≡ times x row₀
    counts_kept_law x low =
        let stored = times_set x opened (to - 1) frame 0 room in
        omega (arith, rw (hole, ne_eqb empty x (λ same. omega arith)) at stored, emptied_counts x low)

    pub step_frame : Packing row₀ (set opened (to - 1) frame) (set places frame (to - 1)) (to - 1) i
    step_frame =
        let small₀ : get_or row₀ i 0 < frames = rw (← same_slot) small in
        record {
          below = omega (arith, pack.below);
          inside = omega (arith, pack.inside);
          shape = shape_kept;
          found = rw (drop-cons row₀ i 0 there, frames_in_frame (get_or row₀ i 0) (drop (suc i) row₀) small₀)
              (omega (arith, pack.found, pack.below));
          long = length-set opened (to - 1) frame ∙ length-set row i empty ∙ pack.long;
          index = places_kept;
          counts = counts_kept_law;
        }

-- the pass goes from the slot above to the slot
module _ {row₀ row places : List ℕ} {to j : ℕ} (long₀ : length row₀ ≡ slots) (pack : Packing row₀ row places to j)
    (some : 0 < j) where
  above : Packing row₀ row places to (suc (j - 1))
  above = subst (λ (n : ℕ). Packing row₀ row places to n) (omega arith) pack

  pub pack_empty : frames ≤ get_or row (j - 1) 0 → Packing row₀ (set row (j - 1) empty) places to (j - 1)
  pack_empty none = step_empty (j - 1) long₀ above none

  pub pack_frame : ((x : ℕ) → x < frames → times x row₀ ≤ 1) → get_or row (j - 1) 0 < frames →
      Packing row₀ (set (set row (j - 1) empty) (to - 1) (get_or row (j - 1) 0)) (set places (get_or row (j - 1) 0) (to - 1))
      (to - 1) (j - 1)
  pack_frame once₀ small = step_frame (j - 1) long₀ above once₀ small

-- W3: at the first slot all is squeezed
pub packed : {row₀ row places : List ℕ} {to j : ℕ} → length row₀ ≡ slots → Packing row₀ row places to j → j ≡ 0 →
    SqueezedNow row₀ to row places
unfolding packing squeezed
packed {row₀} {row} {places} {to} {j} long₀ pack e =
    let ended : Packing row₀ row places to 0 = subst (λ (n : ℕ). Packing row₀ row places to n) e pack in
    let front : to ≡ squeezed_front row₀ = omega (arith, ended.found, squeezed_front_rest row₀) in
    let whole : row ≡ squeezed row₀ = ended.shape ∙ ap (λ (n : ℕ). replicate n empty ++ frames_in row₀) (sub-zero to ∙ front) in
    record { front = front; row = whole; index = ended.index ∙ ap places_in whole }
