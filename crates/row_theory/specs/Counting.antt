-- Counting in lists of numbers: what storing a number and taking one out change of how often each stands there.
use Rattle.std.specs.Prelude.{ℕ, zero, suc, ◌+◌, ◌-◌, ◌<◌, ◌≤◌, ◌≡◌, refl, cond, List, [], ◌∷◌, eqb, length, get_or, set}
use Rattle.std.proofs.Common.{zero-le, le_refl, not-suc-le-zero, le_of_suc-le-suc, arith, sym, ◌∙◌, eq-eqb, ne_eqb, eqb-true}
use Rattle.rules.specs.Cases.{by_cases}
use Rattle.rules.specs.Lists.{times, without}

-- a number at the head of a list counts once more
pub times_cons : (x y : ℕ) (list : List ℕ) → times x (y ∷ list) ≡ cond (eqb y x) 1 0 + times x list
unfolding times
times_cons x y list = by_cases (eqb y x) (λ e. rw e (omega arith)) (λ e. rw e (omega arith))

pub times_same : (x y : ℕ) (list : List ℕ) → y ≡ x → times x (y ∷ list) ≡ suc (times x list)
unfolding times
times_same x y list e = rw (eq-eqb y x e) (omega arith)

pub times_other : (x y : ℕ) (list : List ℕ) → (y ≡ x → ⊥) → times x (y ∷ list) ≡ times x list
unfolding times
times_other x y list ne = rw (ne_eqb y x ne) (omega arith)

pub without_same : (x y : ℕ) (list : List ℕ) → y ≡ x → without x (y ∷ list) ≡ list
unfolding without
without_same x y list e = rw (eq-eqb y x e)

-- taking a number out leaves it once less
pub times_without : (x : ℕ) (list : List ℕ) → times x (without x list) ≡ times x list - 1
unfolding times without
times_without x [] = refl
times_without x (y ∷ list) =
    by_cases (eqb y x) (λ e. rw e (omega arith))
    (λ e. rw (e, e) (omega (arith, times_without x list)))

-- and every other number as often as before
pub times_without_other : (x z : ℕ) (list : List ℕ) → (x ≡ z → ⊥) → times z (without x list) ≡ times z list
unfolding without
times_without_other x z [] ne = refl
times_without_other x z (y ∷ list) ne =
    by_cases (eqb y x)
    (λ e. rw e (sym (times_other z y list (λ yz. ne (sym (eqb-true y x e) ∙ yz)))))
    (λ e. rw e (omega (arith, times_cons z y list, times_cons z y (without x list), times_without_other x z list ne)))

-- and the list shorter by one, if it stood there
pub length_without : (x : ℕ) (list : List ℕ) → 0 < times x list → length (without x list) + 1 ≡ length list
unfolding times without
length_without x [] some = absurd (not-suc-le-zero some)
length_without x (y ∷ list) some =
    by_cases (eqb y x) (λ e. rw e (omega arith))
    (λ e. let more : 0 < times x list = rw e at some in rw e (omega (arith, length_without x list more)))

pub length_without_le : (x : ℕ) (list : List ℕ) → length (without x list) ≤ length list
unfolding without
length_without_le x [] = zero-le
length_without_le x (y ∷ list) =
    by_cases (eqb y x) (λ e. rw e (omega arith)) (λ e. rw e (omega (arith, length_without_le x list)))

-- taking a number out adds none
pub times_without_le : (x z : ℕ) (list : List ℕ) → times z (without x list) ≤ times z list
unfolding without
times_without_le x z [] = le_refl (times z [])
times_without_le x z (y ∷ list) =
    by_cases (eqb y x) (λ e. rw e (omega (arith, times_cons z y list)))
    (λ e. rw e (omega (arith, times_cons z y list, times_cons z y (without x list), times_without_le x z list)))

-- storing a number changes the counts of the old and the new one
pub times_set : (x : ℕ) (list : List ℕ) (k v d : ℕ) → k < length list →
    times x (set list k v) + cond (eqb (get_or list k d) x) 1 0 ≡ times x list + cond (eqb v x) 1 0
times_set x [] k v d inside = absurd (not-suc-le-zero inside)
times_set x (y ∷ list) zero v d inside = omega (arith, times_cons x y list, times_cons x v list)
times_set x (y ∷ list) (suc k) v d inside =
    omega (arith, times_cons x y list, times_cons x y (set list k v), times_set x list k v d (le_of_suc-le-suc inside))

-- a number that is read from a list stands in it
pub times_there : (x : ℕ) (list : List ℕ) (k d : ℕ) → k < length list → get_or list k d ≡ x → 0 < times x list
times_there x [] k d inside there = absurd (not-suc-le-zero inside)
times_there x (y ∷ list) zero d inside there = omega (arith, times_same x y list there)
times_there x (y ∷ list) (suc k) d inside there =
    omega (arith, times_cons x y list, times_there x list k d (le_of_suc-le-suc inside) there)
