-- Squeezing by one pass from the last slot down (docs/RULES.md, W3): the slots in the midst of it, and what one more slot
-- makes of them. Below the slot that the pass has come to stand the old slots, then the gap that packing has left, then the
-- frames found, order kept.
use Rattle.std.specs.Prelude.{ℕ, zero, suc, ◌+◌, ◌<◌, ◌≤◌, ◌≡◌, refl, length, drop}
use Rattle.std.proofs.Common.{zero-add, suc-add, le_refl, arith, sym, ◌∙◌, take-suc, drop-cons, length-take-le, get_or-append-add}
use Rattle.std.proofs.Math.Path.{ap}
use mathlib.Core.List.{List, [], ◌∷◌, ◌++◌}
use Rattle.std.proofs.Math.ListN.{get_or, set, take, replicate, get_or-append}
use Rattle.std.proofs.Math.Seq.{append_snoc, get_or-take}
use Rattle.std.proofs.lemmas.List.{set_at}
use Rattle.rules.specs.Limits.{frames}
use Rattle.row_theory.specs.Slots.{empty, frames_in}
use Rattle.row_theory.specs.SlotLaws.{frames_in_frame, frames_in_empty}

-- the slots when all from `i` on are packed, with a gap before the frames found
unfoldable pub packing : ℕ → ℕ → List ℕ → List ℕ
packing i gap row = take i row ++ (replicate gap empty ++ frames_in (drop i row))

-- a store past the first part of a list
set_past : (p q : List ℕ) (n v : ℕ) → set (p ++ q) (length p + n) v ≡ p ++ set q n v
set_past [] q n v = rw zero-add
set_past (x ∷ p) q n v = rw suc-add (ap (λ (l : List ℕ). x ∷ l) (set_past p q n v))

-- the last of the gap takes a frame
fill_gap : (gap x : ℕ) (row : List ℕ) → set (replicate (suc gap) empty ++ row) gap x ≡ replicate gap empty ++ (x ∷ row)
fill_gap zero x row = refl
fill_gap (suc gap) x row = ap (λ (l : List ℕ). empty ∷ l) (fill_gap gap x row)

gap_end : (gap : ℕ) (row : List ℕ) → get_or (replicate (suc gap) empty ++ row) gap 0 ≡ empty
gap_end zero row = refl
gap_end (suc gap) row = gap_end gap row

-- the pass comes to slot `i`, with a gap behind it
module _ (row : List ℕ) (i gap : ℕ) (inside : i < length row) where
  abbrev behind : List ℕ
  behind = frames_in (drop (suc i) row)

  long : length (take i row) ≡ i
  long = length-take-le i row (omega arith)

  -- the slot is emptied: it joins the gap
  open_slot : set (packing (suc i) gap row) i empty ≡ take i row ++ (replicate (suc gap) empty ++ behind)
  unfolding packing
  open_slot =
      rw (take-suc row i 0 inside, append_snoc (take i row) (get_or row i 0) (replicate gap empty ++ behind))
      (set_at (take i row) (get_or row i 0) (replicate gap empty ++ behind) empty i long)

  -- it held no frame
  pub pass_empty : frames ≤ get_or row i 0 → set (packing (suc i) gap row) i empty ≡ packing i (suc gap) row
  unfolding packing
  pass_empty none = open_slot ∙ rw (drop-cons row i 0 inside, frames_in_empty (get_or row i 0) (drop (suc i) row) none)

  -- it held a frame, which goes to the end of the gap
  pub pass_frame : get_or row i 0 < frames →
      set (set (packing (suc i) gap row) i empty) (i + gap) (get_or row i 0) ≡ packing i gap row
  unfolding packing
  pass_frame small =
      let x = get_or row i 0 in
      let wide = replicate (suc gap) empty ++ behind in
      ap (λ (l : List ℕ). set l (i + gap) x) open_slot ∙
      ap (λ (n : ℕ). set (take i row ++ wide) (n + gap) x) (sym long) ∙
      set_past (take i row) wide gap x ∙
      ap (λ (l : List ℕ). take i row ++ l) (fill_gap gap x behind) ∙
      rw (drop-cons row i 0 inside, frames_in_frame x (drop (suc i) row) small)

  -- until then the slot holds what it held
  pub old_slot : get_or (packing (suc i) gap row) i 0 ≡ get_or row i 0
  unfolding packing
  old_slot =
      get_or-append (take (suc i) row) (replicate gap empty ++ behind) 0 i
      (rw (length-take-le (suc i) row inside) (le_refl (suc i))) ∙
      get_or-take (suc i) row i 0 (le_refl (suc i))

  -- the end of the gap is empty once the slot is
  pub gap_open : get_or (set (packing (suc i) gap row) i empty) (i + gap) 0 ≡ empty
  gap_open =
      let wide = replicate (suc gap) empty ++ behind in
      rw open_slot
      (ap (λ (n : ℕ). get_or (take i row ++ wide) (n + gap) 0) (sym long) ∙
      get_or-append-add (take i row) wide gap 0 ∙
      gap_end gap behind)
