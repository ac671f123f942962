-- The frames held and the frames in the slots, counted one by one (RowTest's last parts but one).
use Rattle.std.specs.Prelude.{ℕ, zero, suc, ◌+◌, ◌<◌, ◌≤◌, ◌≡◌, refl, List, [], ◌∷◌, ltb, length, take, get_or}
use Rattle.std.proofs.Common.{zero-le, not-suc-le-zero, le_of_suc-le-suc, add-one, arith, sym, ◌∙◌, ap, take_all}
use Rattle.rules.specs.Limits.{frames}
use Rattle.rules.specs.Limits
use Rattle.rules.specs.Cases.{by_cases}
use Rattle.row_theory.specs.States.{held_bit, held_in}
use Rattle.row_theory.specs.Slots.{frames_in}
use Rattle.row_theory.specs.StateLaws.{held_bit_small}
use Rattle.row_theory.specs.TestSteps.{full_bit}

-- the frames held among the first so many
pub record HeldTo (states : List ℕ) (i held : ℕ) : Type 0 where
  pub most : i ≤ frames
  pub few : held ≤ i
  pub sum : held ≡ held_in (take i states)

pub held_none : (states : List ℕ) → held_in (take 0 states) ≡ 0
unfolding held_in
held_none [] = refl
held_none (s ∷ states) = refl

pub held_start : {states : List ℕ} → HeldTo states 0 0
held_start {states} = record { most = zero-le; few = zero-le; sum = sym (held_none states) }

pub held_take : (states : List ℕ) (i : ℕ) → i < length states →
    held_in (take (suc i) states) ≡ held_in (take i states) + held_bit (get_or states i 0)
unfolding held_in
held_take [] i inside = absurd (not-suc-le-zero inside)
held_take (s ∷ states) zero inside = omega arith
held_take (s ∷ states) (suc i) inside = omega (arith, held_take states i (le_of_suc-le-suc inside))

pub held_next : {states : List ℕ} {i held : ℕ} → length states ≡ frames → HeldTo states i held → i < frames →
    HeldTo states (i + 1) (held + held_bit (get_or states i 0))
held_next {states} {i} {held} long so_far below =
    record {
      most = omega arith;
      few = omega (arith, so_far.few, held_bit_small (get_or states i 0));
      sum = rw (add-one i) (omega (arith, so_far.sum, held_take states i (omega arith)));
    }

pub held_end : {states : List ℕ} {i held : ℕ} → length states ≡ frames → HeldTo states i held → frames ≤ i →
    held ≡ held_in states
held_end {states} {i} long so_far ended = so_far.sum ∙ ap held_in (take_all i states (omega arith))

-- the frames in the first so many slots
pub record FullTo (slots : List ℕ) (i full : ℕ) : Type 0 where
  pub most : i ≤ Limits.slots
  pub few : full ≤ i
  pub sum : full ≡ length (frames_in (take i slots))

full_none : (slots : List ℕ) → length (frames_in (take 0 slots)) ≡ 0
unfolding frames_in
full_none [] = refl
full_none (x ∷ slots) = refl

pub full_start : {slots : List ℕ} → FullTo slots 0 0
full_start {slots} = record { most = zero-le; few = zero-le; sum = sym (full_none slots) }

full_take : (slots : List ℕ) (i : ℕ) → i < length slots →
    length (frames_in (take (suc i) slots)) ≡ length (frames_in (take i slots)) + full_bit (get_or slots i 0)
unfolding frames_in
full_take [] i inside = absurd (not-suc-le-zero inside)
full_take (x ∷ slots) zero inside = by_cases (ltb x frames) (λ e. rw e (omega arith)) (λ e. rw e (omega arith))
full_take (x ∷ slots) (suc i) inside =
    let rest = full_take slots i (le_of_suc-le-suc inside) in
    by_cases (ltb x frames) (λ e. rw e (omega (arith, rest))) (λ e. rw e (omega (arith, rest)))

pub full_bit_small : (x : ℕ) → full_bit x ≤ 1
full_bit_small x = by_cases (ltb x frames) (λ e. rw e (omega arith)) (λ e. rw e (omega arith))

pub full_next : {slots : List ℕ} {i full : ℕ} → length slots ≡ Limits.slots → FullTo slots i full → i < Limits.slots →
    FullTo slots (i + 1) (full + full_bit (get_or slots i 0))
full_next {slots} {i} {full} long so_far below =
    record {
      most = omega arith;
      few = omega (arith, so_far.few, full_bit_small (get_or slots i 0));
      sum = rw (add-one i) (omega (arith, so_far.sum, full_take slots i (omega arith)));
    }

pub full_end : {slots : List ℕ} {i full : ℕ} → length slots ≡ Limits.slots → FullTo slots i full → Limits.slots ≤ i →
    full ≡ length (frames_in slots)
full_end {slots} {i} long so_far ended = so_far.sum ∙ ap (λ (l : List ℕ). length (frames_in l)) (take_all i slots (omega arith))
