-- Carrying under LRU: what is carried always stays at the next place, so the first entry goes before all and the old one is
-- taken out.
use Rattle.std.proofs.Common.{ℕ, zero, suc, ◌+◌, ◌-◌, ◌≤◌, ◌<◌, arith, add-one, ◌≡◌, refl, sym, ◌∙◌, ap, List, [], ◌∷◌, ◌++◌}
use Rattle.std.proofs.Common.{append-nil, eqb, length, take, drop, get_or, length-drop, length-append, drop_of_length-le}
use Rattle.std.proofs.Common.{take_all, length-take-le, Some, None, Break, Continue}
use Rattle.rules.specs.Cases.{by_cases}
use Rattle.theory.specs.OnePass.{carry, depth, depth_from}
use Rattle.kept.specs.Entries.{always}
use Rattle.step.specs.Shifting.{Found}
use Rattle.step.specs.Stepped.{Carrying}
use Rattle.theory.proofs.Depth.{depth_most}

-- where it is found at all, its place is no earlier than where counting starts
depth_least : (s x : ℕ) (l : List ℕ) → (depth_from (suc s) x l ≡ 0 → ⊥) → suc s ≤ depth_from (suc s) x l
unfolding depth_from
depth_least s x [] n = absurd (n refl)
depth_least s x (z ∷ l) n =
    by_cases (eqb z x) (λ e. rw e (omega arith)) (λ e. rw e (omega (arith, depth_least (suc s) x l (λ q. n (rw e q)))))

-- a place that was found is one of the list's
pub found_inside : (old : ℕ) {d : ℕ} (l : List ℕ) → d ≡ depth old l → 0 < d → d - 1 < length l
found_inside old {d} l e p = omega (arith, e, depth_most 0 old l)

-- under LRU carrying puts the first entry before all, and takes the old one out
module _ (old : ℕ) where
  carry_out : (s i y : ℕ) (l : List ℕ) → depth_from (suc s) old l ≡ suc s + i
      → carry always old y l ≡ y ∷ (take i l ++ drop (suc i) l)
  unfolding carry always depth_from
  carry_out s i y [] h = absurd (omega arith)
  carry_out s zero y (z ∷ l) h =
      by_cases (eqb z old) (λ e. rw e)
      (λ e. let d : depth_from (suc (suc s)) old l ≡ suc s + 0 = rw e at h in
      absurd (omega (arith, d, depth_least (suc s) old l (λ q. omega (arith, q, d)))))
  carry_out s (suc i) y (z ∷ l) h =
      by_cases (eqb z old) (λ e. absurd (omega (arith, rw e at h)))
      (λ e. rw (e, carry_out (suc s) i z l ((rw e at h) ∙ omega arith)))

  carry_on : (s y : ℕ) (l : List ℕ) → depth_from (suc s) old l ≡ 0 → carry always old y l ≡ y ∷ l
  unfolding carry always depth_from
  carry_on s y [] h = refl
  carry_on s y (z ∷ l) h =
      by_cases (eqb z old) (λ e. absurd (omega (arith, rw e at h))) (λ e. rw (e, carry_on (suc s) z l (rw e at h)))

  pub carried_found : {first i : ℕ} {l after : List ℕ} → Found old l (Some i) → after ≡ first ∷ (take i l ++ drop (i + 1) l)
      → Carrying always old first l after (Break (i + 1))
  carried_found {first} {i} {l} f a =
      let moved : List ℕ = first ∷ (take i l ++ drop (suc i) l) in
      let whole : carry always old first l ≡ moved = carry_out 0 i first l (f.1 ∙ omega arith) in
      let long : length moved ≡ length l =
      rw (
        length-append (take i l) (drop (suc i) l),
        length-take-le i l (omega (arith, f.0)),
        length-drop (suc i) l,
      ) (omega (arith, f.0)) in
      record {
        places = rw (a, whole, add-one, take_all (length l) moved (omega (arith, long)));
        ends = (omega arith, sym f.1);
      }

  pub carried_missing : {first : ℕ} {l after : List ℕ} → Found old l None → 0 < length l
      → after ≡ first ∷ (take (length l - 1) l ++ drop (length l - 1 + 1) l)
      → Carrying always old first l after (Continue (get_or l (length l - 1) 0))
  carried_missing {first} {l} {after} missed p a =
      let whole : carry always old first l ≡ first ∷ l = carry_on 0 first l missed in
      let back : length l ≡ suc (length l - 1) = omega arith in
      record {
        places =
            rw (
              a,
              whole,
              drop_of_length-le l {i = length l - 1 + 1} (omega arith),
              append-nil (take (length l - 1) l),
            ) (cut back);
        ends = (missed, rw whole (shown back));
      }
    where
      cut : length l ≡ suc (length l - 1) → first ∷ take (length l - 1) l ≡ take (length l) (first ∷ l)
      cut back = ap (λ (n : ℕ). take n (first ∷ l)) (sym back)

      shown : length l ≡ suc (length l - 1) → get_or l (length l - 1) 0 ≡ get_or (first ∷ l) (length l) 0
      shown back = ap (λ (n : ℕ). get_or (first ∷ l) n 0) (sym back)

  pub carried_empty : {first : ℕ} (l : List ℕ) → length l ≡ 0 → Carrying always old first l l (Continue first)
  unfolding carry depth_from
  carried_empty [] h = record { places = refl; ends = (refl, refl) }
  carried_empty (y ∷ l) h = absurd (omega arith)
