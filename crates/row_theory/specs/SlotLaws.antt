-- Laws of the slots (definitions: Slots): what emptying a slot, squeezing and taking a slot make of the frames in the slots.
use Prim.Native.Nat.{ℕ, zero, suc, ◌+◌, ◌<◌, ◌≤◌, suc-le-suc, zero-le}
use Rattle.std.proofs.Common.{not-suc-le-zero, le_of_suc-le-suc, arith, sym, ◌∙◌, ap, lit≤, length-append, get_or-set_other}
use Rattle.std.proofs.Common.{ne_eqb, eqb-true, lt-ltb, le-ltb, ltb-true, ltb-false}
use Rattle.std.specs.Prelude.{◌≡◌, List, [], ◌∷◌, ◌++◌, ltb, eqb, length, set, replicate}
use Rattle.std.proofs.Math.Path.{refl}
use Rattle.std.proofs.lemmas.List.{length-replicate}
use Rattle.rules.specs.Limits.{frames}
use Rattle.rules.specs.Lists.{times, without}
use Rattle.rules.specs.Cases.{by_cases}
use Rattle.row_theory.specs.Slots.{empty, Clear, frames_in, emptied, squeezed_front, squeezed}
use Rattle.row_theory.specs.Counting.{times_cons, without_same}

pub frames_in_frame : (x : ℕ) (row : List ℕ) → x < frames → frames_in (x ∷ row) ≡ x ∷ frames_in row
unfolding frames_in
frames_in_frame x row h = rw (lt-ltb x frames h)

pub frames_in_empty : (x : ℕ) (row : List ℕ) → frames ≤ x → frames_in (x ∷ row) ≡ frames_in row
unfolding frames_in
frames_in_empty x row h = rw (le-ltb x frames h)

pub frames_in_length : (row : List ℕ) → length (frames_in row) ≤ length row
frames_in_length [] = unfold frames_in in zero-le
frames_in_length (x ∷ row) =
    by_cases (ltb x frames)
    (λ e. rw (frames_in_frame x row (ltb-true x frames e)) (omega (arith, frames_in_length row)))
    (λ e. rw (frames_in_empty x row (ltb-false x frames e)) (omega (arith, frames_in_length row)))

pub squeezed_front_rest : (row : List ℕ) → squeezed_front row + length (frames_in row) ≡ length row
unfolding squeezed_front
squeezed_front_rest row = omega (arith, frames_in_length row)

-- a frame stands in the slots as often as among their frames
pub times_frames_in : (frame : ℕ) (row : List ℕ) → frame < frames → times frame (frames_in row) ≡ times frame row
unfolding times frames_in
times_frames_in frame [] h = refl
times_frames_in frame (x ∷ row) h =
    by_cases (ltb x frames)
    (λ e. rw e (omega (arith, times_cons frame x row, times_cons frame x (frames_in row), times_frames_in frame row h)))
    (λ e. let big : frames ≤ x = ltb-false x frames e in
    let other : x ≡ frame → ⊥ = λ same. omega arith in
    rw (e, ne_eqb x frame other) (omega (arith, times_frames_in frame row h)))

-- what is no frame's number is not among the frames
pub times_past : (x : ℕ) (row : List ℕ) → frames ≤ x → times x (frames_in row) ≡ 0
unfolding times frames_in
times_past x [] h = refl
times_past x (y ∷ row) h =
    by_cases (ltb y frames)
    (λ e. let small : y < frames = ltb-true y frames e in
    let other : y ≡ x → ⊥ = λ same. omega arith in
    rw (e, ne_eqb y x other) (omega (arith, times_past x row h)))
    (λ e. rw e (times_past x row h))

-- W4: emptying a frame's slot takes the frame out
pub frames_in_emptied : (frame : ℕ) (row : List ℕ) → frame < frames →
    frames_in (emptied frame row) ≡ without frame (frames_in row)
unfolding frames_in emptied without
frames_in_emptied frame [] h = refl
frames_in_emptied frame (x ∷ row) h =
    by_cases (eqb x frame)
    (λ e. let same : x ≡ frame = eqb-true x frame e in
    let small : x < frames = omega arith in
    rw e (sym (ap (without frame) (frames_in_frame x row small) ∙ without_same frame x (frames_in row) same)))
    (λ e. by_cases (ltb x frames)
    (λ small. rw (e, small, e) (ap (λ l. x ∷ l) (frames_in_emptied frame row h)))
    (λ big. rw (e, big) (frames_in_emptied frame row h)))

pub emptied_length : (frame : ℕ) (row : List ℕ) → length (emptied frame row) ≡ length row
unfolding emptied
emptied_length frame [] = refl
emptied_length frame (x ∷ row) =
    by_cases (eqb x frame) (λ e. rw e) (λ e. rw e (ap suc (emptied_length frame row)))

pub emptied_clear : (frame : ℕ) (row : List ℕ) (mark : ℕ) → frame < frames → Clear mark row → Clear mark (emptied frame row)
unfolding emptied
emptied_clear frame [] mark h clear i small = refl
emptied_clear frame (x ∷ row) mark h clear zero small =
    let none : x ≡ empty = clear 0 small in
    let other : x ≡ frame → ⊥ = λ same. omega arith in
    rw (ne_eqb x frame other) none
emptied_clear frame (x ∷ row) zero h clear (suc i) small = absurd (not-suc-le-zero small)
emptied_clear frame (x ∷ row) (suc mark) h clear (suc i) small =
    let none : x ≡ empty = clear 0 (suc-le-suc zero-le) in
    let other : x ≡ frame → ⊥ = λ same. omega arith in
    rw (ne_eqb x frame other)
    (emptied_clear frame row mark h (λ j below. clear (suc j) (suc-le-suc below)) i (le_of_suc-le-suc small))

frames_in_replicate : (n : ℕ) (row : List ℕ) → frames_in (replicate n empty ++ row) ≡ frames_in row
frames_in_replicate zero row = refl
frames_in_replicate (suc n) row = frames_in_empty empty (replicate n empty ++ row) (lit≤ tt) ∙ frames_in_replicate n row

frames_in_again : (row : List ℕ) → frames_in (frames_in row) ≡ frames_in row
frames_in_again [] = unfold frames_in in refl
frames_in_again (x ∷ row) =
    by_cases (ltb x frames)
    (λ e. rw (frames_in_frame x row (ltb-true x frames e), frames_in_frame x (frames_in row) (ltb-true x frames e))
    (ap (λ l. x ∷ l) (frames_in_again row)))
    (λ e. rw (frames_in_empty x row (ltb-false x frames e)) (frames_in_again row))

-- W3: squeezing keeps the frames and their order
pub frames_in_squeezed : (row : List ℕ) → frames_in (squeezed row) ≡ frames_in row
unfolding squeezed
frames_in_squeezed row = frames_in_replicate (squeezed_front row) (frames_in row) ∙ frames_in_again row

pub squeezed_length : (row : List ℕ) → length (squeezed row) ≡ length row
unfolding squeezed squeezed_front
squeezed_length row = simp (length-append, length-replicate) (omega (arith, frames_in_length row))

clear_replicate : (n : ℕ) (row : List ℕ) → Clear n (replicate n empty ++ row)
clear_replicate zero row i small = absurd (not-suc-le-zero small)
clear_replicate (suc n) row zero small = refl
clear_replicate (suc n) row (suc i) small = clear_replicate n row i (le_of_suc-le-suc small)

pub squeezed_clear : (row : List ℕ) → Clear (squeezed_front row) (squeezed row)
unfolding squeezed
squeezed_clear row = clear_replicate (squeezed_front row) (frames_in row)

-- W2: a frame put into the last of the empty slots at the front becomes the most recent
pub frames_in_set : (row : List ℕ) (k frame : ℕ) → frame < frames → k < length row → Clear (suc k) row →
    frames_in (set row k frame) ≡ frame ∷ frames_in row
frames_in_set [] k frame h inside clear = absurd (not-suc-le-zero inside)
frames_in_set (x ∷ row) zero frame h inside clear =
    let none : x ≡ empty = clear 0 (suc-le-suc zero-le) in
    rw (frames_in_frame frame row h, frames_in_empty x row (omega arith))
frames_in_set (x ∷ row) (suc k) frame h inside clear =
    let none : x ≡ empty = clear 0 (suc-le-suc zero-le) in
    rw (frames_in_empty x (set row k frame) (omega arith), frames_in_empty x row (omega arith))
    (frames_in_set row k frame h (le_of_suc-le-suc inside) (λ j below. clear (suc j) (suc-le-suc below)))

pub set_clear : (row : List ℕ) (k v mark : ℕ) → mark ≤ k → Clear mark row → Clear mark (set row k v)
set_clear row k v mark low clear i small = get_or-set_other row k i v empty (λ same. omega arith) ∙ clear i small
