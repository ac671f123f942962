-- A test of every number below a bound: what a test of lent memory is made of.
use Prim.Native.Nat.{ℕ, zero, suc, ◌+◌, ◌<◌, ◌≤◌, zero-le}
use Rattle.std.proofs.Common.{add-one, arith, ◌∙◌, ap, sym}
use Rattle.std.proofs.Math.Bool.{and-true, and_assoc}
use Rattle.std.specs.Prelude.{◌≡◌, Bool, true, false, ◌&&◌, eqb}
use Rattle.std.specs.List.{list_all, range_with_len}
use Rattle.std.proofs.Math.Path.{refl}
use borrow.Author.Tests.{eqb-true, eqb-false}
use Rattle.rules.specs.Cases.{by_cases, clash, and_left, and_right}

unfoldable pub all_below : (ℕ → Bool) → ℕ → Bool
all_below p zero = true
all_below p (suc i) = all_below p i && p i

module _ (p : ℕ → Bool) where
  -- all of them pass: each does
  pub all_at : (n i : ℕ) → i < n → all_below p n ≡ true → p i ≡ true
  unfolding all_below
  all_at zero i below e = absurd (omega arith)
  all_at (suc n) i below e =
      by_cases (eqb i n) (λ same. rw (eqb-true i n same) (and_right (all_below p n) (p n) e))
      (λ other. all_at n i (omega (arith, eqb-false i n other)) (and_left (all_below p n) (p n) e))

  pub all_make : (n : ℕ) → ((i : ℕ) → i < n → p i ≡ true) → all_below p n ≡ true
  unfolding all_below
  all_make zero each = refl
  all_make (suc n) each = rw (all_make n (λ i below. each i (omega arith)), each n (omega arith))

  -- one of them fails: so does the test
  pub all_broken : (n i : ℕ) → i < n → p i ≡ false → all_below p n ≡ false
  all_broken n i below bad = by_cases (all_below p n) (λ e. clash (all_at n i below e) bad) (λ e. e)

-- one more, where all passed so far
pub all_next : (p : ℕ → Bool) (i : ℕ) → all_below p i ≡ true → p i ≡ true → all_below p (i + 1) ≡ true
unfolding all_below
all_next p i so_far here = rw (add-one i, so_far, here)

-- the test as a loop goes through it that does not stop where one fails
pub record AllTo (p : ℕ → Bool) (n i : ℕ) (r : Bool) : Type 0 where
  pub most : i ≤ n
  pub is : r ≡ all_below p i

pub all_start : {p : ℕ → Bool} {n : ℕ} → AllTo p n 0 true
all_start = record { most = zero-le; is = unfold all_below in refl }

pub all_also : {p : ℕ → Bool} {n i : ℕ} {so_far here r : Bool} → AllTo p n i so_far → i < n → here ≡ p i → r ≡ (so_far && here) →
    AllTo p n (i + 1) r
unfolding all_below
all_also {p} {n} {i} all below one both = record { most = omega arith; is = rw (add-one i) (both ∙ rw (all.is, one)) }

pub all_done : {p : ℕ → Bool} {n i : ℕ} {r : Bool} → AllTo p n i r → n ≤ i → r ≡ all_below p n
all_done {p} {n} {i} all ended = let same : i ≡ n = omega (arith, all.most) in all.is ∙ ap (all_below p) same

-- the test as an iterator goes through it, which stops where one fails
all_from : (p : ℕ → Bool) (a n m : ℕ) → a + n ≡ m → (all_below p a && list_all p (range_with_len a n)) ≡ all_below p m
unfolding all_below
all_from p a zero m is = let same : a ≡ m = omega arith in and-true (all_below p a) ∙ ap (all_below p) same
all_from p a (suc n) m is =
    sym (and_assoc (all_below p a) (p a) (list_all p (range_with_len (a + 1) n))) ∙
    rw (add-one a) (all_from p (suc a) n m (omega arith))

pub all_listed : (p : ℕ → Bool) (n : ℕ) → list_all p (range_with_len 0 n) ≡ all_below p n
unfolding all_below
all_listed p n = all_from p 0 n n (omega arith)
