-- Laws of the frames' places (definitions: Slots): what a store into the slots changes of them.
use Rattle.std.specs.Prelude.{ℕ, zero, suc, ◌+◌, ◌<◌, ◌≤◌, ◌≡◌, refl, List, [], ◌∷◌, eqb, length, get_or, set}
use Rattle.std.proofs.Common.{suc-le-suc, zero-le, zero-add, add-zero, add-suc, suc-add, not-suc-le-zero, le_of_suc-le-suc}
use Rattle.std.proofs.Common.{arith, sym, ◌∙◌, ap, length-set, get_or-set_same, get_or-set_other, ext_get_or, eq-eqb, ne_eqb}
use Rattle.std.proofs.Common.{eqb-true}
use Rattle.std.proofs.lemmas.Bool.{eqb-false}
use Rattle.rules.specs.Limits.{frames}
use Rattle.rules.specs.Lists.{times}
use Rattle.rules.specs.Cases.{by_cases}
use Rattle.row_theory.specs.Slots.{empty, emptied, slot_of, places_from, places_in}
use Rattle.row_theory.specs.Counting.{times_set}

places_length : (n k : ℕ) (row : List ℕ) → length (places_from n k row) ≡ k
unfolding places_from
places_length n zero row = refl
places_length n (suc k) row = ap suc (places_length (suc n) k row)

pub places_in_length : (row : List ℕ) → length (places_in row) ≡ frames
unfolding places_in
places_in_length row = places_length 0 frames row

places_at : (n k : ℕ) (row : List ℕ) (i : ℕ) → i < k → get_or (places_from n k row) i 0 ≡ slot_of (n + i) row
unfolding places_from
places_at n zero row i small = absurd (not-suc-le-zero small)
places_at n (suc k) row zero small = rw add-zero
places_at n (suc k) row (suc i) small =
    rw add-suc (places_at (suc n) k row i (le_of_suc-le-suc small) ∙ ap (λ (m : ℕ). slot_of m row) (suc-add n i))

pub places_in_at : (row : List ℕ) (frame : ℕ) → frame < frames → get_or (places_in row) frame 0 ≡ slot_of frame row
unfolding places_in
places_in_at row frame small = places_at 0 frames row frame small ∙ ap (λ (m : ℕ). slot_of m row) (zero-add frame)

-- a frame that stands in the slots has a place, where it stands
pub slot_of_inside : (x : ℕ) (row : List ℕ) → 0 < times x row → slot_of x row < length row
unfolding slot_of times
slot_of_inside x [] some = some
slot_of_inside x (y ∷ row) some =
    by_cases (eqb y x) (λ e. rw e (suc-le-suc zero-le))
    (λ e. let more : 0 < times x row = rw e at some in rw e (suc-le-suc (slot_of_inside x row more)))

pub slot_of_there : (x : ℕ) (row : List ℕ) (d : ℕ) → 0 < times x row → get_or row (slot_of x row) d ≡ x
unfolding slot_of times
slot_of_there x [] d some = absurd (not-suc-le-zero some)
slot_of_there x (y ∷ row) d some =
    by_cases (eqb y x) (λ e. rw e (eqb-true y x e))
    (λ e. let more : 0 < times x row = rw e at some in rw e (slot_of_there x row d more))

pub slot_of_none : (x : ℕ) (row : List ℕ) → times x row ≡ 0 → slot_of x row ≡ length row
unfolding slot_of times
slot_of_none x [] none = refl
slot_of_none x (y ∷ row) none =
    by_cases (eqb y x) (λ e. absurd (omega (arith, rw e at none)))
    (λ e. let rest : times x row ≡ 0 = rw e at none in rw e (ap suc (slot_of_none x row rest)))

-- W4: emptying a frame's slot is a store at its place
pub emptied_place : (x : ℕ) (row : List ℕ) → emptied x row ≡ set row (slot_of x row) empty
unfolding emptied slot_of
emptied_place x [] = refl
emptied_place x (y ∷ row) = by_cases (eqb y x) (λ e. rw e) (λ e. rw e (ap (λ (l : List ℕ). y ∷ l) (emptied_place x row)))

-- a store leaves the place of every number but the old and the new one
slot_of_other : (x : ℕ) (row : List ℕ) (k v d : ℕ) → k < length row → (get_or row k d ≡ x → ⊥) → (v ≡ x → ⊥) →
    slot_of x (set row k v) ≡ slot_of x row
unfolding slot_of
slot_of_other x [] k v d inside old new = absurd (not-suc-le-zero inside)
slot_of_other x (y ∷ row) zero v d inside old new = rw (ne_eqb v x new, ne_eqb y x old)
slot_of_other x (y ∷ row) (suc k) v d inside old new =
    by_cases (eqb y x) (λ e. rw e) (λ e. rw e (ap suc (slot_of_other x row k v d (le_of_suc-le-suc inside) old new)))

pub slot_of_new : (x : ℕ) (row : List ℕ) (k : ℕ) → k < length row → times x row ≡ 0 → slot_of x (set row k x) ≡ k
unfolding slot_of times
slot_of_new x [] k inside none = absurd (not-suc-le-zero inside)
slot_of_new x (y ∷ row) zero inside none = rw (eq-eqb x x refl)
slot_of_new x (y ∷ row) (suc k) inside none =
    by_cases (eqb y x) (λ e. absurd (omega (arith, rw e at none)))
    (λ e. let rest : times x row ≡ 0 = rw e at none in rw e (ap suc (slot_of_new x row k (le_of_suc-le-suc inside) rest)))

-- places that agree with a table at its frame and with the old places at every other
places_set : (before later : List ℕ) (x p : ℕ) → x < frames → slot_of x later ≡ p →
    ((y : ℕ) → y < frames → (y ≡ x → ⊥) → slot_of y later ≡ slot_of y before) →
    places_in later ≡ set (places_in before) x p
places_set before later x p small here others =
    ext_get_or 0 (places_in later) (set (places_in before) x p) (simp (places_in_length, length-set))
    (λ i inside. let low : i < frames = omega (arith, places_in_length later) in
    by_cases (eqb i x)
    (λ e. let there : x < length (places_in before) = omega (arith, places_in_length before) in
    rw (places_in_at later i low, eqb-true i x e, get_or-set_same (places_in before) x p 0 there) here)
    (λ e. let ne : i ≡ x → ⊥ = eqb-false i x e in
    rw (places_in_at later i low, get_or-set_other (places_in before) x i p 0 ne, places_in_at before i low) (others i low ne)))

-- a frame that stood once, taken out of its slot, has no place
pub places_out : (row : List ℕ) (k x d : ℕ) → x < frames → k < length row → get_or row k d ≡ x → times x row ≡ 1 →
    places_in (set row k empty) ≡ set (places_in row) x (length row)
places_out row k x d small inside there once =
    let none : times x (set row k empty) ≡ 0 =
    omega (
      arith,
      rw (eq-eqb (get_or row k d) x there, ne_eqb empty x (λ e. omega arith)) at (times_set x row k empty d inside),
    ) in
    places_set row (set row k empty) x (length row) small (slot_of_none x (set row k empty) none ∙ length-set row k empty)
    (λ y low ne. slot_of_other y row k empty d inside (λ e. ne (sym e ∙ there)) (λ e. omega arith))

-- a frame that stood nowhere, put into a slot without a frame, has that slot for its place
pub places_in_law : (row : List ℕ) (k x d : ℕ) → x < frames → k < length row → frames ≤ get_or row k d → times x row ≡ 0 →
    places_in (set row k x) ≡ set (places_in row) x k
places_in_law row k x d small inside there none =
    places_set row (set row k x) x k small (slot_of_new x row k inside none)
    (λ y low ne. slot_of_other y row k x d inside (λ e. omega arith) (λ e. ne (sym e)))

-- emptying a slot without a frame changes no place
pub places_same : (row : List ℕ) (k d : ℕ) → k < length row → frames ≤ get_or row k d →
    places_in (set row k empty) ≡ places_in row
places_same row k d inside there =
    ext_get_or 0 (places_in (set row k empty)) (places_in row) (places_in_length (set row k empty) ∙ sym (places_in_length row))
    (λ i low. let small : i < frames = omega (arith, places_in_length (set row k empty)) in
    rw (places_in_at (set row k empty) i small, places_in_at row i small)
    (slot_of_other i row k empty d inside (λ e. omega arith) (λ e. omega arith)))
