-- Lists as bags: two lists hold the same pages where every weight of pages has the same sum over both.
-- Length is the weight 1, and how often a page stands in a list is the weight that is 1 at that page.
use Rattle.std.specs.Prelude.{ℕ, suc, ◌+◌, ◌≡◌, refl, List, [], ◌∷◌, eqb, ltb, length}
use Rattle.std.proofs.Common.{arith, sym, ◌∙◌, lt-ltb}
use Rattle.rules.specs.Lists.{holds, times, one}
use Rattle.rules.specs.Cases.{by_cases}

unfoldable pub sum : (ℕ → ℕ) → List ℕ → ℕ
sum f [] = 0
sum f (z ∷ l) = f z + sum f l

pub record Same (l m : List ℕ) : Type 0 where
  pub sums : (f : ℕ → ℕ) → sum f l ≡ sum f m

pub sum_one : (l : List ℕ) → sum (λ z. 1) l ≡ length l
unfolding sum
sum_one [] = refl
sum_one (z ∷ l) = omega (arith, sum_one l)

pub sum_times : (p : ℕ) (l : List ℕ) → sum (λ z. one (eqb z p)) l ≡ times p l
unfolding sum times one
sum_times p [] = refl
sum_times p (z ∷ l) =
    by_cases (eqb z p) (λ e. rw e (omega (arith, sum_times p l))) (λ e. rw e (omega (arith, sum_times p l)))

pub holds_times : (p : ℕ) (l : List ℕ) → holds p l ≡ ltb 0 (times p l)
unfolding holds times
holds_times p [] = refl
holds_times p (z ∷ l) =
    by_cases (eqb z p) (λ e. rw e (sym (lt-ltb 0 (suc (times p l)) (omega arith)))) (λ e. rw e (holds_times p l))

pub same_length : {l m : List ℕ} → Same l m → length l ≡ length m
same_length {l} {m} s = sym (sum_one l) ∙ s.sums (λ z. 1) ∙ sum_one m

pub same_times : (p : ℕ) {l m : List ℕ} → Same l m → times p l ≡ times p m
same_times p {l} {m} s = sym (sum_times p l) ∙ s.sums (λ z. one (eqb z p)) ∙ sum_times p m

pub same_holds : (p : ℕ) {l m : List ℕ} → Same l m → holds p l ≡ holds p m
same_holds p {l} {m} s = rw (holds_times p l, holds_times p m, same_times p s)
