-- Looking for the oldest idle frame with a mark, from the last slot down to the front (docs/RULES.md, W7).
use Rattle.std.specs.Prelude.{ℕ, zero, suc, ◌-◌, ◌<◌, ◌≤◌, ◌≡◌, refl, Bool, cond, List, [], ◌∷◌, eqb, get_or, take, drop}
use Rattle.std.specs.Prelude.{reverse, find, Option, Some, None, Result, Ok, Err}
use Rattle.std.specs.Option.{option_or}
use Rattle.std.proofs.Common.{suc-le-suc, zero-le, le_refl, arith, ◌∙◌, subst, take_all, length-drop}
use Rattle.std.proofs.lemmas.List.{reverse-append}
use Rattle.std.proofs.lemmas.List.Folds.{find-append}
use borrow.Author.Tests.{lt-ltb, le-ltb, eq-eqb, ne_eqb}
use Rattle.rules.specs.Limits.{frames, slots}
use Rattle.rules.specs.declared.Frame.{Frame}
use Rattle.rules.specs.declared.refusal.Refusal.{Refusal}
use Rattle.rules.specs.declared.refusal.Refusal.TheVariants.{NothingHeld, AllBusy}
use Rattle.rules.specs.Cases.{by_cases}
use Rattle.row_theory.specs.States.{idle}
use Rattle.row_theory.specs.Slots.{Clear, empty, passes, oldest}
use Rattle.row_theory.specs.Row.{Row, any_frame, has_mark, idle_among, victim_among}
use Rattle.row_theory.proofs.Oldest.{oldest_behind, oldest_here, oldest_skip, oldest_not, oldest_same, passes_frame, passes_empty}
use Rattle.row_theory.specs.Promise.{row_with, OldestIdle}
use Rattle.row_theory.proofs.PromiseLaws.{ordered, oldest_idle}
use Rattle.row_theory.specs.Runs.{Reached}

-- what stands ahead of a frame that passes does not matter
pub oldest_drop : (may : ℕ → Bool) (row : List ℕ) (i : ℕ) → oldest may (drop i row) < frames →
    oldest may row ≡ oldest may (drop i row)
oldest_drop may [] zero h = refl
oldest_drop may (x ∷ row) zero h = refl
oldest_drop may [] (suc i) h = refl
oldest_drop may (x ∷ row) (suc i) h =
    let later : oldest may row ≡ oldest may (drop i row) = oldest_drop may row i h in
    oldest_behind may x row (omega arith) ∙ later

-- nor do empty slots
pub oldest_clear : (may : ℕ → Bool) (row : List ℕ) (i : ℕ) → Clear i row → frames ≤ oldest may (drop i row) →
    frames ≤ oldest may row
oldest_clear may [] zero clear h = h
oldest_clear may (x ∷ row) zero clear h = h
oldest_clear may [] (suc i) clear h = h
oldest_clear may (x ∷ row) (suc i) clear h =
    let none : x ≡ empty = clear 0 (suc-le-suc zero-le) in
    rw (oldest_skip may x row (passes_empty may x (omega arith)))
    (oldest_clear may row i (λ j below. clear (suc j) (suc-le-suc below)) h)

-- may the frame be given up by these states and marks?
abbrev pub marked_idle : List ℕ → List ℕ → ℕ → Bool
marked_idle states marks = idle_among (has_mark marks) states

-- what is found from the last of these slots down
abbrev Finds : (ℕ → Bool) → List ℕ → Option ℕ → Type 0
Finds may row (Some frame) = (oldest may row ≡ frame) × (frame < frames)
Finds may row None = frames ≤ oldest may row

-- one slot more, ahead of the others
finds_ahead : (may : ℕ → Bool) (x : ℕ) (row : List ℕ) (later : Option ℕ) → Finds may row later →
    Finds may (x ∷ row) (option_or later (find (passes may) (x ∷ [])))
finds_ahead may x row (Some frame) found =
    let is : oldest may row ≡ frame = found.0 in
    (oldest_behind may x row (omega (arith, found.1)) ∙ is, found.1)
finds_ahead may x row None none =
    by_cases (passes may x) (λ e. rw e (oldest_here may x row none e, passes_frame may x e))
    (λ e. rw e (omega (arith, oldest_not may x row none e)))

finds : (may : ℕ → Bool) (row : List ℕ) → Finds may row (find (passes may) (reverse row))
finds may [] = unfold oldest in le_refl frames
finds may (x ∷ row) =
    rw (reverse-append (x ∷ []) row, find-append (passes may) (reverse row) (x ∷ []))
    (finds_ahead may x row (find (passes may) (reverse row)) (finds may row))

pub look_inside : {row : Row} → Reached row → row.front ≤ slots
look_inside reached = (ordered reached).sound.fits.inside

-- looking from the last slot down to the front
module _ (marks : List ℕ) {states row : List ℕ} {front held : ℕ} (reached : Reached (row_with row states front held)) where
  abbrev may : ℕ → Bool
  may = marked_idle states marks

  abbrev found : Option ℕ
  found = find (passes may) (reverse (take (slots - front) (drop front row)))

  all_of_them : take (slots - front) (drop front row) ≡ drop front row
  all_of_them =
      take_all (slots - front) (drop front row) (omega (arith, length-drop front row, (ordered reached).sound.fits.long))

  here : {o : Option ℕ} → found ≡ o → Finds may (drop front row) o
  here e = subst (Finds may (drop front row)) (rw (← all_of_them) e) (finds may (drop front row))

  -- a frame is found: that is the victim
  pub look_found : {frame : ℕ} → found ≡ Some frame →
      OldestIdle (row_with row states front held) (has_mark marks) (Ok (record { 0 = frame }))
  unfolding victim_among
  look_found {frame} e =
      let at : oldest may (drop front row) ≡ frame = (here e).0 in
      let small : frame < frames = (here e).1 in
      let whole : oldest may row ≡ frame = oldest_drop may row front (omega arith) ∙ at in
      oldest_idle (rw (whole, lt-ltb frame frames small))

  -- none is found: the slots below the front are empty, so there is none
  none_there : found ≡ None → frames ≤ oldest may row
  none_there e = oldest_clear may row front (ordered reached).sound.fits.clear (here e)

  refused : found ≡ None → (r : Refusal) → cond (eqb held 0) NothingHeld AllBusy ≡ r →
      OldestIdle (row_with row states front held) (has_mark marks) (Err r)
  unfolding victim_among
  refused none r e = oldest_idle (rw (le-ltb (oldest may row) frames (none_there none), e))

  pub look_nothing : found ≡ None → held ≡ 0 → OldestIdle (row_with row states front held) (has_mark marks) (Err NothingHeld)
  look_nothing none nothing = refused none NothingHeld (rw (eq-eqb held 0 nothing))

  pub look_busy : found ≡ None → (held ≡ 0 → ⊥) → OldestIdle (row_with row states front held) (has_mark marks) (Err AllBusy)
  look_busy none some = refused none AllBusy (rw (ne_eqb held 0 some))

-- all idle frames bear the mark where the states are the marks
idle_marked : (states : List ℕ) (frame : ℕ) → idle_among (has_mark states) states frame ≡ idle_among any_frame states frame
unfolding idle_among has_mark
idle_marked states frame = by_cases (eqb (get_or states frame 0) idle) (λ e. rw e) (λ e. rw e)

pub states_as_marks : {row : Row} {victim : Result Frame Refusal} → OldestIdle row (has_mark row.states) victim →
    OldestIdle row any_frame victim
unfolding victim_among
states_as_marks {row} p =
    oldest_idle (p.answer ∙ rw (oldest_same row.slots (idle_marked row.states)))
