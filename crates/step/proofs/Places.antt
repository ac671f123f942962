-- Looking for an entry, over plain lists: the places that do not have it, and the first that does.
use Rattle.std.proofs.Common.{ℕ, zero, suc, ◌+◌, ◌-◌, ◌*◌, ◌/◌, ◌≤◌, ◌<◌, arith, add-one, add-zero, zero-add, add-suc, suc-add}
use Rattle.std.proofs.Common.{below_more, Bool, true, false, ◌||◌, ◌≡◌, refl, sym, ◌∙◌}
use Rattle.std.proofs.Common.{List, [], ◌∷◌, eqb, ltb, length, take, drop, get_or, length-drop, length-take-le, take_all, eq-eqb}
use Rattle.std.proofs.Common.{ne_eqb, eqb-true, ltb-true}
use Rattle.std.proofs.Common.{ltb-false, Some, None}
use Rattle.std.proofs.lemmas.List.{drop-drop, get_or-take, get_or-drop}
use Rattle.std.proofs.lemmas.List.Folds.{list_any_at}
use Rattle.std.proofs.lemmas.List.Quantifiers.{position-Some}
use Rattle.std.proofs.lemmas.Iterator.Adapters.{position_from-zero}
use Rattle.std.proofs.Math.Nat.{mul-zero, mul-suc}
use Rattle.std.specs.Simd.{first_chunks}
use Rattle.std.specs.List.{list_any, position, position_from}
use Rattle.rules.specs.Cases.{by_cases, clash}
use Rattle.theory.specs.OnePass.{depth, depth_from}
use Rattle.step.specs.EntryLengths.{depth_zero}
use Rattle.step.specs.Shifting.{Free, Found, block, free_of}

-- the blocks of a list, one after the other
block_at : (n k i : ℕ) (xs d : List ℕ) → i < k → get_or (first_chunks n k xs) i d ≡ take n (drop (n * i) xs)
block_at n zero i xs d h = absurd (omega arith)
block_at n (suc k) zero xs d h = rw (mul-zero n)
block_at n (suc k) (suc i) xs d h =
    let one_more : n + n * i ≡ n * suc i = omega (arith, mul-suc n i) in
    block_at n k i (drop n xs) d (omega arith) ∙ rw (drop-drop (n * i) n xs, one_more)

-- an entry that is not found has no depth
nowhere_from : (old s : ℕ) (l : List ℕ) → position_from (λ e. eqb e old) s l ≡ None → depth_from (suc s) old l ≡ 0
unfolding depth_from
nowhere_from old s [] e = refl
nowhere_from old s (z ∷ l) e =
    by_cases (eqb z old) (λ h. some_none (rw h at e)) (λ h. rw h (rw add-one at (nowhere_from old (s + 1) l (rw h at e))))
  where
    some_none : {A : Type 0} {i : ℕ} → Some i ≡ None → A
    some_none e = let z : ◌≡◌ {A = ℕ} 0 1 = cc in absurd (omega arith)

-- counting goes on behind the places that do not have it
passed_over : {old : ℕ} (s n : ℕ) (l : List ℕ) → n ≤ length l → ((i : ℕ) → i < n → get_or l i 0 ≡ old → ⊥)
    → depth_from (suc s) old l ≡ depth_from (suc (s + n)) old (drop n l)
unfolding depth_from
passed_over s zero l h none = rw (add-zero s)
passed_over s (suc n) [] h none = absurd (omega arith)
passed_over {old} s (suc n) (z ∷ l) h none =
    rw (
      ne_eqb z old (none 0 (omega arith)),
      passed_over (suc s) n l (omega arith) (λ i q. none (suc i) (omega arith)),
      suc-add s n,
      add-suc s n,
    )

-- one place more of a block, compared without a way out
pub block_next : (old from j : ℕ) (list : List ℕ) (found : Bool) → (found ≡ false → free_of old from j list)
    → found || eqb (get_or list (from + j) 0) old ≡ false → free_of old from (j + 1) list
block_next old from j list true f e = clash refl e
block_next old from j list false f e =
    below_more (λ (k : ℕ). get_or list (from + k) 0 ≡ old → ⊥) j (f refl)
    (λ q. clash (eq-eqb (get_or list (from + j) 0) old q) e)

-- places without the old entry
module _ {old : ℕ} {list : List ℕ} where
  pub free_start : Free old 0 list
  free_start = record { inside = omega arith; none = λ i h. absurd (omega arith) }

  pub free_one : {i : ℕ} → Free old i list → i < length list → (get_or list i 0 ≡ old → ⊥) → Free old (i + 1) list
  free_one {i} f h n = record { inside = omega arith; none = below_more (λ (k : ℕ). get_or list k 0 ≡ old → ⊥) i f.none n }

  -- places behind them without it
  pub free_more : {i n : ℕ} → Free old i list → i + n ≤ length list → free_of old i n list → Free old (i + n) list
  free_more {i} {n} f room b =
      record { inside = room; none = λ k h e. split k h e }
    where
      split : (k : ℕ) → k < i + n → get_or list k 0 ≡ old → ⊥
      split k h e =
          by_cases (ltb k i) (λ y. f.none k (ltb-true k i y) e)
          (λ y. let back : i + (k - i) ≡ k = omega (arith, ltb-false k i y) in
          b (k - i) (omega (arith, ltb-false k i y)) (rw back e))

  -- a block without it
  pub free_block : {blocks : List (List ℕ)} (i : ℕ) (d : List ℕ) → Free old (block * i) list
      → blocks ≡ first_chunks block (length list / block) list → i < length list / block
      → list_any (λ y. eqb y old) (get_or blocks i d) ≡ false → Free old (block * (i + 1)) list
  free_block i d f blocks-are inside missed =
      let next : 8 * i + 8 ≡ 8 * (i + 1) = omega arith in
      let missed : free_of old (8 * i) 8 list =
      λ k h e. clash (list_any_at (λ y. eqb y old) these k 0 (rw long h) (there k h e)) none in
      rw (← next) (free_more f (omega arith) missed)
    where
      these : List ℕ
      these = take 8 (drop (8 * i) list)

      long : length (take 8 (drop (8 * i) list)) ≡ 8
      long = length-take-le 8 (drop (8 * i) list) (omega (arith, length-drop (8 * i) list))

      none : list_any (λ y. eqb y old) (take 8 (drop (8 * i) list)) ≡ false
      none = rw (blocks-are, block_at 8 (length list / 8) i list d inside) at missed

      there : (k : ℕ) → k < 8 → get_or list (8 * i + k) 0 ≡ old → eqb (get_or (take 8 (drop (8 * i) list)) k 0) old ≡ true
      there k h e = eq-eqb _ old (rw (get_or-take 8 (drop (8 * i) list) k 0 h, get_or-drop (8 * i) list k 0) e)

  -- the first place that has it
  pub found_at : (i : ℕ) → Free old i list → i < length list → get_or list i 0 ≡ old → depth old list ≡ i + 1
  unfolding depth_from
  found_at i f h e = first_at 1 i list f.none h e ∙ omega arith
    where
      first_at : (s i : ℕ) (l : List ℕ) → ((k : ℕ) → k < i → get_or l k 0 ≡ old → ⊥) → i < length l → get_or l i 0 ≡ old
          → depth_from s old l ≡ s + i
      first_at s i [] n h e = absurd (omega arith)
      first_at s zero (z ∷ l) n h e = rw (eq-eqb z old e) (omega arith)
      first_at s (suc i) (z ∷ l) n h e =
          rw (
            ne_eqb z old (n 0 (omega arith)),
            first_at (suc s) i l (λ k q. n (suc k) (omega arith)) (omega arith) e,
          ) (omega arith)

  -- no place has it
  pub found_nowhere : (i : ℕ) → Free old i list → length list ≤ i → 0 ≡ depth old list
  unfolding depth_from
  found_nowhere i f h = sym (nowhere 1 list (λ k q. f.none k (omega arith)))
    where
      nowhere : (s : ℕ) (l : List ℕ) → ((k : ℕ) → k < length l → get_or l k 0 ≡ old → ⊥) → depth_from s old l ≡ 0
      nowhere s [] n = refl
      nowhere s (z ∷ l) n = rw (ne_eqb z old (n 0 (omega arith))) (nowhere (suc s) l (λ k q. n (suc k) (omega arith)))

  -- past the places passed over the first that has it is the first of all
  module _ (n : ℕ) (free : Free old n list) where
    rest_is : take (length list - n) (drop n list) ≡ drop n list
    rest_is = take_all (length list - n) (drop n list) (omega (arith, length-drop n list))

    pub found_behind : (i : ℕ) → position (λ e. eqb e old) (take (length list - n) (drop n list)) ≡ Some i
        → Found old list (Some (n + i))
    found_behind i e =
        let p = position-Some (λ e. eqb e old) (drop n list) i 0 (rw rest_is at e) in
        let here : get_or list (n + i) 0 ≡ old = rw (get_or-drop n list i 0) at (eqb-true (get_or (drop n list) i 0) old p.1) in
        let inside : n + i < length list = omega (arith, p.0, length-drop n list, free.inside) in
        let before : free_of old n i list = λ k h q. clash (eq-eqb _ old (rw (get_or-drop n list k 0) q)) (p.2 k h) in
        (inside, found_at (n + i) (free_more free (omega arith) before) inside here)

    pub missed_behind : position (λ e. eqb e old) (take (length list - n) (drop n list)) ≡ None → Found old list None
    missed_behind e =
        rw zero-add at (passed_over 0 n list free.inside free.none)
        ∙ depth_zero 0 n old (drop n list)
        (nowhere_from old 0 (drop n list) (sym (position_from-zero (λ e. eqb e old) (drop n list)) ∙ (rw rest_is at e)))
