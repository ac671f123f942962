-- The same look for the oldest idle frame with a mark (Scan), slot by slot from the last one down (docs/RULES.md, W7).
use Rattle.std.specs.Prelude.{ℕ, suc, ◌-◌, ◌<◌, ◌≤◌, ◌≡◌, Bool, false, cond, List, [], ◌∷◌, ltb, eqb, length}
use Rattle.std.specs.Prelude.{get_or, drop, Ok, Err}
use Rattle.std.proofs.Common.{le_refl, arith, ◌∙◌, ap, drop_of_length-le, drop-cons}
use Rattle.std.proofs.Math.Bool.{true, and-false}
use borrow.Author.Tests.{lt-ltb, le-ltb, eq-eqb, ne_eqb}
use Rattle.rules.specs.Limits.{frames, slots}
use Rattle.rules.specs.declared.refusal.Refusal.{Refusal}
use Rattle.rules.specs.declared.refusal.Refusal.TheVariants.{NothingHeld, AllBusy}
use Rattle.row_theory.specs.States.{idle}
use Rattle.row_theory.specs.Slots.{passes, oldest}
use Rattle.row_theory.specs.Row.{Row, givable, has_mark, idle_among, victim_among}
use Rattle.row_theory.proofs.Oldest.{oldest_here, oldest_skip, passes_empty}
use Rattle.row_theory.specs.Promise.{row_with, OldestIdle}
use Rattle.row_theory.proofs.PromiseLaws.{ordered, oldest_idle}
use Rattle.row_theory.proofs.Scan.{oldest_drop, oldest_clear, marked_idle}
use Rattle.row_theory.specs.Runs.{Reached}

-- a row that calls give has all its slots
pub reached_long : {row : Row} → Reached row → length row.slots ≡ slots
reached_long reached = (ordered reached).sound.fits.long

-- no frame that may be given up from this slot on
pub record Looked (states marks row : List ℕ) (i : ℕ) : Type 0 where
  pub inside : i ≤ slots
  pub none : frames ≤ oldest (marked_idle states marks) (drop i row)

nothing : (may : ℕ → Bool) → frames ≤ oldest may []
unfolding oldest
nothing may = le_refl frames

pub look_start : {states marks row : List ℕ} → length row ≡ slots → Looked states marks row slots
look_start {states} {marks} {row} long =
    let ended : drop slots row ≡ [] = drop_of_length-le row {i = slots} (omega arith) in
    record { inside = le_refl slots; none = rw ended (nothing (marked_idle states marks)) }

-- the slot before, and the slots from it on
from_slot : (row : List ℕ) (j : ℕ) → 0 < j → j ≤ length row → drop (j - 1) row ≡ get_or row (j - 1) 0 ∷ drop j row
from_slot row j some inside =
    let next : suc (j - 1) ≡ j = omega arith in
    drop-cons row (j - 1) 0 (omega arith) ∙ ap (λ (n : ℕ). get_or row (j - 1) 0 ∷ drop n row) next

-- one slot down: its frame passes, or there is none
module _ {states marks row : List ℕ} {j : ℕ} (long : length row ≡ slots) (looked : Looked states marks row j) (some : 0 < j) where
  abbrev here : ℕ
  here = get_or row (j - 1) 0

  look_past : passes (marked_idle states marks) here ≡ false → Looked states marks row (j - 1)
  look_past stays =
      let slot = from_slot row j some (omega (arith, looked.inside)) in
      record {
        inside = omega (arith, looked.inside);
        none = rw (slot, oldest_skip (marked_idle states marks) here (drop j row) stays) looked.none;
      }

  -- the slot holds no frame, one that is not idle, or one without the mark
  pub look_past_empty : frames ≤ here → Looked states marks row (j - 1)
  look_past_empty none = look_past (passes_empty (marked_idle states marks) here none)

  pub look_past_state : (get_or states here 0 ≡ idle → ⊥) → Looked states marks row (j - 1)
  unfolding passes idle_among
  look_past_state ne = look_past (rw (ne_eqb (get_or states here 0) idle ne) (and-false (ltb here frames)))

  pub look_past_mark : (get_or marks here 0 ≡ givable → ⊥) → Looked states marks row (j - 1)
  unfolding passes idle_among has_mark
  look_past_mark ne =
      look_past
      (rw (ne_eqb (get_or marks here 0) givable ne, and-false (eqb (get_or states here 0) idle)) (and-false (ltb here frames)))

  -- the slot holds an idle frame with the mark: that is the victim
  pub look_found : {front held : ℕ} → here < frames → get_or states here 0 ≡ idle → get_or marks here 0 ≡ givable →
      OldestIdle (row_with row states front held) (has_mark marks) (Ok (record { 0 = here }))
  unfolding victim_among passes idle_among has_mark
  look_found small isIdle mark =
      let may = marked_idle states marks in
      let passing : passes may here ≡ true = rw (lt-ltb here frames small, isIdle, mark) in
      let slot = from_slot row j some (omega (arith, looked.inside)) in
      let there : oldest may (drop (j - 1) row) ≡ here = rw slot (oldest_here may here (drop j row) looked.none passing) in
      let whole : oldest may row ≡ here = oldest_drop may row (j - 1) (omega arith) ∙ there in
      oldest_idle (rw (whole, lt-ltb here frames small))

-- no slot from the front on holds such a frame: there is none
module _ {states marks row : List ℕ} {front held i : ℕ} (reached : Reached (row_with row states front held))
    (looked : Looked states marks row i) (low : i ≤ front) where
  none_there : frames ≤ oldest (marked_idle states marks) row
  none_there =
      oldest_clear (marked_idle states marks) row i (λ j below. (ordered reached).sound.fits.clear j (omega arith)) looked.none

  refused : (r : Refusal) → cond (eqb held 0) NothingHeld AllBusy ≡ r →
      OldestIdle (row_with row states front held) (has_mark marks) (Err r)
  unfolding victim_among
  refused r e = oldest_idle (rw (le-ltb (oldest (marked_idle states marks) row) frames none_there, e))

  pub look_nothing : held ≡ 0 →
      OldestIdle (row_with row states front held) (has_mark marks) (Err NothingHeld)
  look_nothing none = refused NothingHeld (rw (eq-eqb held 0 none))

  pub look_busy : (held ≡ 0 → ⊥) →
      OldestIdle (row_with row states front held) (has_mark marks) (Err AllBusy)
  look_busy some = refused AllBusy (rw (ne_eqb held 0 some))
