-- The oldest frame that passes a test (docs/RULES.md, W7): along slots that hold their frames most recent first, its moment
-- is earliest.
use Rattle.std.specs.Prelude.{ℕ, ◌<◌, ◌≤◌, ◌≡◌, Bool, true, false, cond, List, [], ◌∷◌, ltb, eqb}
use native.Mathlib.Omega.{arith}
use Rattle.std.proofs.Math.Path.{refl}
use Rattle.std.proofs.Common.{sym, ◌∙◌, ap}
use borrow.Author.Tests.{eqb-true, eqb-false, lt-ltb, le-ltb, ltb-true, ltb-false}
use Rattle.rules.specs.Limits.{frames}
use Rattle.rules.specs.Lists.{times}
use Rattle.rules.specs.Cases.{by_cases, and_left}
use Rattle.row_theory.specs.Slots.{empty, frames_in, passes, older, oldest}
use Rattle.row_theory.specs.Runs.{Earlier, Recent}
use Rattle.row_theory.specs.Counting.{times_cons, times_same, times_other}
use Rattle.row_theory.specs.SlotLaws.{frames_in_frame, frames_in_empty}

-- what passes is a frame
pub passes_frame : (may : ℕ → Bool) (x : ℕ) → passes may x ≡ true → x < frames
unfolding passes
passes_frame may x e = ltb-true x frames (and_left (ltb x frames) (may x) e)

pub passes_empty : (may : ℕ → Bool) (x : ℕ) → frames ≤ x → passes may x ≡ false
unfolding passes
passes_empty may x h = rw (le-ltb x frames h)

-- the last slot of a row whose frame passes has the oldest; where none does, the rest of the row decides
pub oldest_cons : (may : ℕ → Bool) (x : ℕ) (row : List ℕ) →
    oldest may (x ∷ row) ≡ older (oldest may row) (cond (passes may x) x empty)
unfolding oldest
oldest_cons may x row = refl

-- tests that agree choose alike
pub oldest_same : {may also : ℕ → Bool} (row : List ℕ) → ((x : ℕ) → may x ≡ also x) → oldest may row ≡ oldest also row
unfolding oldest passes
oldest_same [] agree = refl
oldest_same {may} {also} (x ∷ row) agree = rw (agree x, oldest_same row agree)

older_old : (old young : ℕ) → old < frames → older old young ≡ old
unfolding older
older_old old young h = rw (lt-ltb old frames h)

older_young : (old young : ℕ) → frames ≤ old → older old young ≡ young
unfolding older
older_young old young h = rw (le-ltb old frames h)

pub oldest_behind : (may : ℕ → Bool) (x : ℕ) (row : List ℕ) → oldest may row < frames → oldest may (x ∷ row) ≡ oldest may row
oldest_behind may x row h = oldest_cons may x row ∙ older_old (oldest may row) (cond (passes may x) x empty) h

oldest_last : (may : ℕ → Bool) (x : ℕ) (row : List ℕ) → frames ≤ oldest may row →
    oldest may (x ∷ row) ≡ cond (passes may x) x empty
oldest_last may x row h = oldest_cons may x row ∙ older_young (oldest may row) (cond (passes may x) x empty) h

pub oldest_here : (may : ℕ → Bool) (x : ℕ) (row : List ℕ) → frames ≤ oldest may row → passes may x ≡ true →
    oldest may (x ∷ row) ≡ x
oldest_here may x row h e = oldest_last may x row h ∙ rw e

pub oldest_not : (may : ℕ → Bool) (x : ℕ) (row : List ℕ) → frames ≤ oldest may row → passes may x ≡ false →
    oldest may (x ∷ row) ≡ empty
oldest_not may x row h e = oldest_last may x row h ∙ rw e

-- where no frame passes, the answer is `empty`
pub oldest_none_empty : (may : ℕ → Bool) (row : List ℕ) → frames ≤ oldest may row → oldest may row ≡ empty
oldest_none_empty may [] h = unfold oldest in refl
oldest_none_empty may (x ∷ row) h =
    by_cases (ltb (oldest may row) frames)
    (λ e. let small : oldest may row < frames = ltb-true (oldest may row) frames e in
    absurd (omega (arith, oldest_behind may x row small)))
    (λ e. let none : frames ≤ oldest may row = ltb-false (oldest may row) frames e in
    by_cases (passes may x)
    (λ m. absurd (omega (arith, oldest_here may x row none m, passes_frame may x m)))
    (λ m. oldest_not may x row none m))

-- empty slots make no difference
pub oldest_skip : (may : ℕ → Bool) (x : ℕ) (row : List ℕ) → passes may x ≡ false → oldest may (x ∷ row) ≡ oldest may row
oldest_skip may x row m =
    by_cases (ltb (oldest may row) frames)
    (λ e. oldest_behind may x row (ltb-true (oldest may row) frames e))
    (λ e. let none : frames ≤ oldest may row = ltb-false (oldest may row) frames e in
    oldest_not may x row none m ∙ sym (oldest_none_empty may row none))

pub oldest_frames_in : (may : ℕ → Bool) (row : List ℕ) → oldest may (frames_in row) ≡ oldest may row
oldest_frames_in may [] = unfold frames_in in refl
oldest_frames_in may (x ∷ row) =
    by_cases (ltb x frames)
    (λ e. rw (frames_in_frame x row (ltb-true x frames e), oldest_cons may x (frames_in row), oldest_cons may x row)
    (ap (λ (v : ℕ). older v (cond (passes may x) x empty)) (oldest_frames_in may row)))
    (λ e. let none : frames ≤ x = ltb-false x frames e in
    rw (frames_in_empty x row none) (oldest_frames_in may row ∙ sym (oldest_skip may x row (passes_empty may x none))))

-- if the answer is no frame, no frame of the list passes
pub oldest_none : (may : ℕ → Bool) (list : List ℕ) → frames ≤ oldest may list → (frame : ℕ) → 0 < times frame list →
    passes may frame ≡ true → ⊥
oldest_none may [] h frame inside m = unfold times in omega arith
oldest_none may (x ∷ list) h frame inside m =
    by_cases (ltb (oldest may list) frames)
    (λ e. let small : oldest may list < frames = ltb-true (oldest may list) frames e in
    omega (arith, oldest_behind may x list small))
    (λ e. let none : frames ≤ oldest may list = ltb-false (oldest may list) frames e in
    by_cases (eqb x frame)
    (λ same. let there : passes may x ≡ true = rw (eqb-true x frame same) m in
    omega (arith, oldest_here may x list none there, passes_frame may x there))
    (λ other. oldest_none may list none frame (omega (arith, times_other frame x list (eqb-false x frame other))) m))

-- a frame of the list that passes, and whose moment is before every other's
pub record EarliestPassing (may : ℕ → Bool) (list : List ℕ) (moment : ℕ → ℕ) (frame : ℕ) : Type 0 where
  pub bears : passes may frame ≡ true
  pub there : 0 < times frame list
  pub earliest : (other : ℕ) → (frame ≡ other → ⊥) → 0 < times other list → passes may other ≡ true → moment frame < moment other

chosen_behind : (may : ℕ → Bool) (moment : ℕ → ℕ) (x : ℕ) (list : List ℕ) (frame : ℕ) → Earlier moment (moment x) list →
    EarliestPassing may list moment frame → EarliestPassing may (x ∷ list) moment frame
chosen_behind may moment x list frame earlier chosen =
    record {
      bears = chosen.bears;
      there = omega (arith, times_cons frame x list, chosen.there);
      earliest = λ other apart inside m. by_cases (eqb x other)
          (λ same. let e : x ≡ other = eqb-true x other same in rw (← e) (earlier frame chosen.there))
          (λ ne. chosen.earliest other apart (omega (arith, times_other other x list (eqb-false x other ne))) m);
    }

chosen_here : (may : ℕ → Bool) (moment : ℕ → ℕ) (x : ℕ) (list : List ℕ) → frames ≤ oldest may list → passes may x ≡ true →
    EarliestPassing may (x ∷ list) moment x
chosen_here may moment x list none m =
    record {
      bears = m;
      there = omega (arith, times_same x x list refl);
      earliest = λ other apart inside mo. by_cases (eqb x other)
          (λ same. absurd (apart (eqb-true x other same)))
          (λ ne. absurd (oldest_none may list none other (omega (arith, times_other other x list (eqb-false x other ne))) mo));
    }

-- W7: if the answer is a frame, its moment is the earliest of those that pass
pub oldest_chosen : (may : ℕ → Bool) (moment : ℕ → ℕ) (list : List ℕ) → Recent moment list → oldest may list < frames →
    EarliestPassing may list moment (oldest may list)
oldest_chosen may moment [] order h = absurd (unfold oldest in omega arith)
oldest_chosen may moment (x ∷ list) order h =
    let parts : Earlier moment (moment x) list × Recent moment list = unfold Recent in order in
    by_cases (ltb (oldest may list) frames)
    (λ e. let small : oldest may list < frames = ltb-true (oldest may list) frames e in
    rw (oldest_behind may x list small)
    (chosen_behind may moment x list (oldest may list) parts.0 (oldest_chosen may moment list parts.1 small)))
    (λ e. let none : frames ≤ oldest may list = ltb-false (oldest may list) frames e in
    by_cases (passes may x)
    (λ m. rw (oldest_here may x list none m) (chosen_here may moment x list none m))
    (λ m. absurd (omega (arith, oldest_not may x list none m))))
