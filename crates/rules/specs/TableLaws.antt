-- Tables of values: their length, their entries, and one entry more.
use Rattle.std.specs.Prelude.{ℕ, zero, suc, ◌+◌, ◌≤◌, ◌<◌, ◌≡◌, refl, List, [], ◌∷◌, ◌++◌, length, drop, get_or, set}
use Rattle.std.proofs.Common.{arith, add-suc, suc-add, add-zero, add-one, one-add, ap, append_assoc, drop-cons}
use Rattle.std.proofs.lemmas.List.{set_at}
use Rattle.rules.specs.Lists.{values_from}

pub values_length : (f : ℕ → ℕ) (c n : ℕ) → length (values_from f c n) ≡ n
unfolding values_from
values_length f c zero = refl
values_length f c (suc n) = ap suc (values_length f (suc c) n)

pub values_at : (f : ℕ → ℕ) (c n i : ℕ) → i < n → get_or (values_from f c n) i 0 ≡ f (c + i)
unfolding values_from
values_at f c zero i h = absurd (omega arith)
values_at f c (suc n) zero h = rw (add-zero c)
values_at f c (suc n) (suc i) h = rw (values_at f (suc c) n i (omega arith), suc-add c i, add-suc c i)

pub values_same : (f g : ℕ → ℕ) (c n : ℕ) → ((i : ℕ) → c ≤ i → i < c + n → f i ≡ g i) → values_from f c n ≡ values_from g c n
unfolding values_from
values_same f g c zero same = refl
values_same f g c (suc n) same =
    rw (same c (omega arith) (omega arith), values_same f g (suc c) n (λ i low high. same i (omega arith) (omega arith)))

values_more : (f : ℕ → ℕ) (c n : ℕ) → values_from f c (suc n) ≡ values_from f c n ++ (f (c + n) ∷ [])
unfolding values_from
values_more f c zero = rw (add-zero c)
values_more f c (suc n) = rw (add-suc c n, ← suc-add c n) (ap (λ (l : List ℕ). f c ∷ l) (values_more f (suc c) n))

-- one entry more is written into a table that has the values up to here, and what stood behind them
pub values_next : (f : ℕ → ℕ) (table before : List ℕ) (c : ℕ) → c < length before → table ≡ values_from f 1 c ++ drop c before
    → set table c (f (c + 1)) ≡ values_from f 1 (c + 1) ++ drop (c + 1) before
values_next f table before c h e =
    rw (
      e,
      drop-cons before c 0 h,
      add-one c,
      set_at (values_from f 1 c) (get_or before c 0) (drop (suc c) before) (f (suc c)) c (values_length f 1 c),
      values_more f 1 c,
      one-add c,
      append_assoc (values_from f 1 c) (f (suc c) ∷ []) (drop (suc c) before),
    )
