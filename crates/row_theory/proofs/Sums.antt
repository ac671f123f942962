-- Sums over the frames: how many frames stand in the slots and how many are held, frame by frame. Where each frame stands at
-- least as often as its state says, and as many stand as are held, each stands as often as its state says.
use Rattle.std.specs.Prelude.{ℕ, zero, suc, ◌+◌, ◌<◌, ◌≤◌, ◌≡◌, refl, cond, List, [], ◌∷◌, ltb, eqb, length, get_or, take}
use Rattle.std.proofs.Common.{le_refl, not-suc-le-zero, le_of_suc-le-suc, arith, ◌∙◌, ap, eqb-true, lt-ltb}
use Rattle.std.proofs.Common.{le-ltb, ltb-true, ltb-false}
use Rattle.std.proofs.Math.Path.{sym}
use Rattle.std.proofs.Math.Seq.{take-length}
use Rattle.std.proofs.lemmas.Bool.{eqb-false}
use Rattle.rules.specs.Limits.{frames}
use Rattle.rules.specs.Cases.{by_cases}
use Rattle.rules.specs.Lists.{times}
use Rattle.row_theory.specs.States.{held_bit, held_in}
use Rattle.row_theory.specs.Slots.{frames_in}
use Rattle.row_theory.specs.Counting.{times_cons}
use Rattle.row_theory.specs.SlotLaws.{frames_in_frame, frames_in_empty}

-- the sum of the first so many
unfoldable sum_to : (ℕ → ℕ) → ℕ → ℕ
sum_to g zero = 0
sum_to g (suc n) = sum_to g n + g n

sum_add : (f g h : ℕ → ℕ) → ((i : ℕ) → f i ≡ g i + h i) → (n : ℕ) → sum_to f n ≡ sum_to g n + sum_to h n
unfolding sum_to
sum_add f g h each zero = refl
sum_add f g h each (suc n) = omega (arith, sum_add f g h each n, each n)

-- of one number among the first so many
sum_one : (x n : ℕ) → sum_to (λ i. cond (eqb x i) 1 0) n ≡ cond (ltb x n) 1 0
unfolding sum_to
sum_one x zero = rw (le-ltb x 0 (omega arith))
sum_one x (suc n) =
    by_cases (eqb x n)
    (λ e. let same : x ≡ n = eqb-true x n e in
    rw (e, lt-ltb x (suc n) (omega arith)) (omega (arith, rw (le-ltb x n (omega arith)) at (sum_one x n))))
    (λ e. let other : x ≡ n → ⊥ = eqb-false x n e in
    by_cases (ltb x n)
    (λ b. let below = ltb-true x n b in
    rw (e, lt-ltb x (suc n) (omega arith)) (omega (arith, rw b at (sum_one x n))))
    (λ b. let past = ltb-false x n b in
    rw (e, le-ltb x (suc n) (omega arith)) (omega (arith, rw b at (sum_one x n)))))

sum_none : (n : ℕ) → sum_to (λ f. times f []) n ≡ 0
unfolding sum_to times
sum_none zero = refl
sum_none (suc n) = omega (arith, sum_none n)

-- the frames in the slots, frame by frame
frames_sum : (slots : List ℕ) → length (frames_in slots) ≡ sum_to (λ f. times f slots) frames
frames_sum [] = unfold frames_in in sym (sum_none frames)
frames_sum (x ∷ slots) =
    let both =
    sum_add (λ f. times f (x ∷ slots)) (λ f. cond (eqb x f) 1 0) (λ f. times f slots) (λ f. times_cons f x slots) frames in
    by_cases (ltb x frames)
    (λ e. rw (frames_in_frame x slots (ltb-true x frames e))
    (omega (arith, both, rw e at (sum_one x frames), frames_sum slots)))
    (λ e. rw (frames_in_empty x slots (ltb-false x frames e))
    (omega (arith, both, rw e at (sum_one x frames), frames_sum slots)))

-- the frames held, frame by frame
held_none : (states : List ℕ) → held_in (take 0 states) ≡ 0
unfolding held_in
held_none [] = refl
held_none (s ∷ states) = refl

held_take : (states : List ℕ) (i : ℕ) → i < length states →
    held_in (take (suc i) states) ≡ held_in (take i states) + held_bit (get_or states i 0)
unfolding held_in
held_take [] i inside = absurd (not-suc-le-zero inside)
held_take (s ∷ states) zero inside = omega arith
held_take (s ∷ states) (suc i) inside = omega (arith, held_take states i (le_of_suc-le-suc inside))

held_sum : (states : List ℕ) (n : ℕ) → n ≤ length states → held_in (take n states) ≡ sum_to (λ f. held_bit (get_or states f 0)) n
unfolding sum_to
held_sum states zero most = held_none states
held_sum states (suc n) most = omega (arith, held_take states n most, held_sum states n (omega arith))

-- where no part is larger, equal sums have equal parts
sums_below : (g h : ℕ → ℕ) (n : ℕ) → ((i : ℕ) → i < n → g i ≤ h i) → sum_to g n ≤ sum_to h n
unfolding sum_to
sums_below g h zero each = le_refl 0
sums_below g h (suc n) each = omega (arith, sums_below g h n (λ i low. each i (omega arith)), each n (omega arith))

sums_meet : (g h : ℕ → ℕ) (n : ℕ) → ((i : ℕ) → i < n → g i ≤ h i) → sum_to g n ≡ sum_to h n → (i : ℕ) → i < n → g i ≡ h i
unfolding sum_to
sums_meet g h zero each same i low = absurd (omega arith)
sums_meet g h (suc n) each same i low =
    let last = each n (omega arith) in
    let rest = sums_below g h n (λ j below. each j (omega arith)) in
    by_cases (eqb i n) (λ e. rw (eqb-true i n e) (omega (arith, same)))
    (λ e. let ne : i ≡ n → ⊥ = eqb-false i n e in
    sums_meet g h n (λ j below. each j (omega arith)) (omega (arith, same)) i (omega arith))

pub all_stand : (slots states : List ℕ) → length states ≡ frames → length (frames_in slots) ≡ held_in states →
    ((f : ℕ) → f < frames → held_bit (get_or states f 0) ≤ times f slots) →
    (f : ℕ) → f < frames → times f slots ≡ held_bit (get_or states f 0)
all_stand slots states wide many each f small =
    let held : held_in states ≡ sum_to (λ f. held_bit (get_or states f 0)) frames =
    ap held_in (sym (take-length states) ∙ ap (λ (n : ℕ). take n states) wide) ∙ held_sum states frames (omega arith) in
    sym
    (sums_meet (λ f. held_bit (get_or states f 0)) (λ f. times f slots) frames each
    (omega (arith, frames_sum slots, many, held)) f
    small)
