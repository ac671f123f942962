-- The carrying loop over plain lists: what is written so far, followed by the carry of what is left, is the whole carry.
use Rattle.std.proofs.Common.{ℕ, suc, ◌+◌, ◌≤◌, ◌<◌, min, max, arith, add-one, true, false, ◌≡◌, refl, sym, ◌∙◌, List, [], ◌∷◌}
use Rattle.std.proofs.Common.{◌++◌}
use Rattle.std.proofs.Common.{append_assoc, append-nil, eqb, length, drop, get_or, set, length-append, length-drop, length-set}
use Rattle.std.proofs.Common.{drop_of_length-le, drop-cons, take_all, take_at, eq-eqb, ne_eqb, ltb, ltb-true, ltb-false}
use Rattle.std.proofs.Common.{ControlFlow, Break, Continue}
use Rattle.std.proofs.lemmas.List.{set_at, get_or_at}
use Rattle.theory.specs.Priority.{Priority, higher, lower}
use Rattle.theory.specs.OnePass.{carry, depth, depth_from}
use Rattle.rules.specs.Cases.{by_cases}
use Rattle.kept.specs.Entries.{larger}
use Rattle.step.specs.Stepped.{AtPlace, Carrying}

-- after i places of `before` the list is `now`, and `carried` is in hand
pub record Walk (above : Priority) (old first : ℕ) (before : List ℕ) (carried i : ℕ) (now : List ℕ) : Type 0 where
  pub inside : i ≤ length before
  pub long : length now ≡ length before
  -- what the places so far took
  pub done : List ℕ
  pub done_length : length done ≡ i
  pub list : now ≡ done ++ drop i before
  pub whole : carry above old first before ≡ done ++ carry above old carried (drop i before)
  pub deeper : depth old before ≡ depth_from (suc i) old (drop i before)

module _ {above : Priority} {old first : ℕ} {before : List ℕ} where
  pub walk_start : Walk above old first before first 0 before
  walk_start =
      record { inside = omega arith; long = refl; done = []; done_length = refl; list = refl; whole = refl; deeper = refl }

  module _ {carried i : ℕ} {now : List ℕ} (w : Walk above old first before carried i now) where
    module _ (h : i < length before) where
      here_is : get_or now i 0 ≡ get_or before i 0
      here_is =
          rw (
            w.list,
            drop-cons before i 0 h,
            get_or_at w.done (get_or before i 0) (drop (suc i) before) 0 i w.done_length,
          )

      -- the old entry is not here: one entry stays, the other is carried on
      pub walk_next : (get_or now i 0 ≡ old → ⊥)
          → Walk above old first before (lower above carried (get_or now i 0)) (i + 1)
          (set now i (higher above carried (get_or now i 0)))
      unfolding carry depth_from
      walk_next n =
          let here : ℕ = get_or before i 0 in
          let stays : ℕ = higher above carried (get_or before i 0) in
          let other : eqb (get_or before i 0) old ≡ false = ne_eqb (get_or before i 0) old (λ q. n (here_is ∙ q)) in
          rw here_is (record {
            inside = omega arith;
            long = length-set now i stays ∙ w.long;
            done = w.done ++ (stays ∷ []);
            done_length = rw (length-append w.done (stays ∷ []), w.done_length);
            list =
                rw (
                  w.list,
                  drop-cons before i 0 h,
                  set_at w.done here (drop (suc i) before) stays i w.done_length,
                  add-one,
                  append_assoc w.done (stays ∷ []) (drop (suc i) before),
                );
            whole =
                rw (
                  w.whole,
                  drop-cons before i 0 h,
                  other,
                  add-one,
                  append_assoc w.done (stays ∷ []) (carry above old (lower above carried here) (drop (suc i) before)),
                );
            deeper = rw (w.deeper, drop-cons before i 0 h, other, add-one);
          })

      -- the old entry is here: the carried one is put down, and nothing is left over
      pub walk_found : get_or now i 0 ≡ old → Carrying above old first before (set now i carried) (Break (i + 1))
      unfolding carry depth_from
      walk_found e =
          let all : List ℕ = w.done ++ (carried ∷ drop (suc i) before) in
          record {
            places =
                rw (
                  w.list,
                  drop-cons before i 0 h,
                  set_at w.done (get_or before i 0) (drop (suc i) before) carried i w.done_length,
                  found,
                  take_all (length before) all (omega (arith, full)),
                );
            ends = (omega arith, rw (w.deeper, drop-cons before i 0 h, this, add-one));
          }
        where
          this : eqb (get_or before i 0) old ≡ true
          this = eq-eqb (get_or before i 0) old (sym here_is ∙ e)

          found : carry above old first before ≡ w.done ++ (carried ∷ drop (suc i) before)
          found = rw (w.whole, drop-cons before i 0 h, this)

          full : length (w.done ++ (carried ∷ drop (suc i) before)) ≡ length before
          full =
              rw (
                length-append w.done (carried ∷ drop (suc i) before),
                w.done_length,
                length-drop (suc i) before,
              ) (omega arith)

    -- the end: the carried entry is left over
    pub walk_end : length before ≤ i → Carrying above old first before now (Continue carried)
    unfolding carry depth_from
    walk_end h =
        record {
          places =
              rw (
                w.list,
                drop_of_length-le before h,
                append-nil w.done,
                left,
                take_at w.done (carried ∷ []) (length before) full,
              );
          ends = (rw (w.deeper, drop_of_length-le before h), rw (left, get_or_at w.done carried [] 0 (length before) full));
        }
      where
        left : carry above old first before ≡ w.done ++ (carried ∷ [])
        left = rw (w.whole, drop_of_length-le before h)

        full : length w.done ≡ length before
        full = omega (arith, w.done_length, w.inside)

-- the larger of two entries is the higher
pub higher_is : (a b : ℕ) → max a b ≡ higher larger a b
unfolding larger
higher_is a b = by_cases (ltb b a) (λ e. rw e (omega (arith, ltb-true b a e))) (λ e. rw e (omega (arith, ltb-false b a e)))

pub lower_is : (a b : ℕ) → min a b ≡ lower larger a b
unfolding larger
lower_is a b = by_cases (ltb b a) (λ e. rw e (omega (arith, ltb-true b a e))) (λ e. rw e (omega (arith, ltb-false b a e)))

-- what the code does at a place is what the walk asks for
pub place_hit : {old : ℕ} (carried i : ℕ) (before : List ℕ) → get_or before i 0 ≡ old
    → AtPlace old carried i before (set before i carried) (Break (i + 1))
place_hit carried i before e = (e, refl, refl)

pub place_miss : {old stays sinks : ℕ} (carried i : ℕ) (before : List ℕ) → (get_or before i 0 ≡ old → ⊥)
    → stays ≡ higher larger carried (get_or before i 0) → sinks ≡ lower larger carried (get_or before i 0)
    → AtPlace old carried i before (set before i stays) (Continue sinks)
place_miss carried i before other s t = (other, rw s, t)

-- and what it tells: as many places, and what stands at this one after it
module _ (old carried i : ℕ) (before after : List ℕ) where
  pub as_long : (r : ControlFlow ℕ ℕ) → AtPlace old carried i before after r → length after ≡ length before
  as_long (Break d) at = rw at.1 (length-set before i carried)
  as_long (Continue c) at = rw at.1 (length-set before i (higher larger carried (get_or before i 0)))

  pub hit : {d : ℕ} → AtPlace old carried i before after (Break d) → (get_or before i 0 ≡ old) × (after ≡ set before i carried)
  hit at = (at.0, at.1)

  pub miss : {c : ℕ} → AtPlace old carried i before after (Continue c)
      → (get_or before i 0 ≡ old → ⊥) × (after ≡ set before i (higher larger carried (get_or before i 0)))
      × (c ≡ lower larger carried (get_or before i 0))
  miss at = at

-- the code's walk, a place at a time
module _ {old first carried i : ℕ} {before now after : List ℕ} (w : Walk larger old first before carried i now)
    (h : i < length before) where
  pub walk_on : {next : ℕ} → AtPlace old carried i now after (Continue next) → Walk larger old first before next (i + 1) after
  walk_on at = rw (at.1, at.2) (walk_next w h at.0)

  pub walk_stop : {d : ℕ} → AtPlace old carried i now after (Break d) → Carrying larger old first before after (Break d)
  walk_stop at = rw (at.1, at.2) (walk_found w h at.0)

-- two places are one and one more
pub two_on : (i : ℕ) {above : Priority} {old first carried : ℕ} {before now : List ℕ}
    → Walk above old first before carried (i + 1 + 1) now
    → Walk above old first before carried (i + 2) now
two_on i w =
    let two : i + 1 + 1 ≡ i + 2 = omega arith in
    rw two at w
