-- Moving the first places of a list one place down, over plain lists.
use Rattle.std.proofs.Common.{ℕ, zero, suc, ◌+◌, ◌-◌, ◌≤◌, ◌<◌, arith, add-one, ◌≡◌, refl, sym, ◌∙◌, List, [], ◌∷◌, ◌++◌}
use Rattle.std.proofs.Common.{append_assoc, append-nil, length, take, drop, get_or, set, length-set, take-append-drop, take-suc}
use Rattle.std.proofs.Common.{drop-cons, get_or-take, length-take-le}
use Rattle.std.proofs.Math.ListN.{get_or-append}
use Rattle.std.proofs.lemmas.List.{set_at}

-- the places from i to `to` have moved; x at place i is still to be written over
pub record Moving (before : List ℕ) (to i : ℕ) (now : List ℕ) : Type 0 where
  pub inside : i ≤ to
  pub long : length now ≡ length before
  pub x : ℕ
  pub moved : List ℕ
  pub list : now ≡ take i before ++ (x ∷ (moved ++ drop (suc to) before))
  pub split : take to before ≡ take i before ++ moved

module _ {before : List ℕ} {to : ℕ} (h : to < length before) where
  pub moving_start : Moving before to to before
  moving_start =
      record {
        inside = omega arith;
        long = refl;
        x = get_or before to 0;
        moved = [];
        list = rw (← drop-cons before to 0 h) (sym (take-append-drop to before));
        split = sym (append-nil (take to before));
      }

  moving_down : {now : List ℕ} (j : ℕ) → Moving before to (suc j) now → Moving before to j (set now (suc j) (get_or now j 0))
  moving_down {now} j m =
      let v : ℕ = get_or before j 0 in
      let rest : List ℕ = m.moved ++ drop (suc to) before in
      let j-in : j < length before = omega (arith, m.inside) in
      let front : take (suc j) before ≡ take j before ++ (get_or before j 0 ∷ []) = take-suc before j 0 j-in in
      let long : length (take (suc j) before) ≡ suc j = length-take-le (suc j) before (omega (arith, m.inside)) in
      let here : get_or now j 0 ≡ get_or before j 0 =
      rw m.list
      (get_or-append (take (suc j) before) (m.x ∷ rest) 0 j (omega (arith, long))
      ∙ get_or-take (suc j) before j 0 (omega arith)) in
      record {
        inside = omega (arith, m.inside);
        long = length-set now (suc j) (get_or now j 0) ∙ m.long;
        x = get_or before j 0;
        moved = get_or before j 0 ∷ m.moved;
        list =
            rw (
              here,
              m.list,
              set_at (take (suc j) before) m.x rest v (suc j) long,
              front,
              append_assoc (take j before) (v ∷ []) (v ∷ rest),
            );
        split = rw (m.split, front, append_assoc (take j before) (v ∷ []) m.moved);
      }

  pub moving_next : {now : List ℕ} (i : ℕ) → 0 < i → Moving before to i now
      → Moving before to (i - 1) (set now i (get_or now (i - 1) 0))
  moving_next zero p m = absurd (omega arith)
  moving_next {now} (suc j) p m = let e : suc j - 1 ≡ j = omega arith in rw e (moving_down j m)

  pub moving_end : {now : List ℕ} {first : ℕ} (i : ℕ) → i ≤ 0 → Moving before to i now
      → set now 0 first ≡ first ∷ (take to before ++ drop (to + 1) before)
  moving_end zero p m = rw (m.list, m.split, add-one)
  moving_end (suc i) p m = absurd (omega arith)
