-- The part in use comes back, and what is left over is put behind it: together that is the whole step.
use Rattle.std.proofs.Common.{ℕ, suc, ◌+◌, ◌≤◌, ◌<◌, min, max, arith, add-one, true, false, ◌≡◌, refl, sym, ◌∙◌, ap, List, []}
use Rattle.std.proofs.Common.{◌∷◌, ◌++◌, append_assoc, ltb, leb, length, take, drop, get_or, set, length-take}
use Rattle.std.proofs.Common.{length-drop}
use Rattle.std.proofs.Common.{length-append, take_all, take-suc, drop-cons, length-take-le, lt-ltb}
use Rattle.std.proofs.Common.{ltb-true, ltb-false, leb-true, leb-false}
use Rattle.std.proofs.lemmas.List.{set_at}
use Rattle.std.proofs.Common.{ControlFlow, Break, Continue}
use Rattle.theory.specs.Priority.{Priority}
use Rattle.theory.specs.OnePass.{depth}
use Rattle.rules.specs.Cases.{by_cases}
use Rattle.kept.specs.Entries.{place_entry}
use Rattle.step.specs.declared.Step.{Step}
use Rattle.step.specs.Stepped.{Placed, Settled, Stepped, next, grows, depth_of}
use Rattle.step.specs.EntryLengths.{place_entry_length, place_entry_longer}

-- what is left over is put behind, and what is not, or has no room, leaves the list as it is
pub settle_grown : (used k last : ℕ) (l : List ℕ) → used < k → used < length l
    → Settled used k (Continue last) l (set l used last) (record { depth = 0; length = used + 1 })
settle_grown used k last l hk hl =
    let g : grows used k (Continue last) l ≡ true = rw (lt-ltb used k hk, lt-ltb used (length l) hl) in
    record { places = rw g; depth_is = refl; length_is = rw (g, add-one) }

pub settle_kept : (used k : ℕ) (c : ControlFlow ℕ ℕ) (l : List ℕ) → grows used k c l ≡ false
    → Settled used k c l l (record { depth = depth_of c; length = used })
settle_kept used k c l g = record { places = rw g; depth_is = refl; length_is = rw g }

pub take_in_use : (n : ℕ) (l : List ℕ) → take (min n (length l)) l ≡ take n l
take_in_use n l =
    by_cases (leb n (length l)) (λ e. ap (λ (m : ℕ). take m l) (fewer (leb-true n (length l) e)))
    (λ e. more (leb-false n (length l) e))
  where
    fewer : n ≤ length l → min n (length l) ≡ n
    fewer h = omega arith

    more : length l < n → take (min n (length l)) l ≡ take n l
    more h = take_all (min n (length l)) l (omega arith) ∙ sym (take_all n l (omega arith))

-- The part in use came back as `places`; P is the whole list with the new entry placed.
module _ (above : Priority) (k old new n : ℕ) (before places after : List ℕ) (r : Step) (used : ℕ)
    (u : used ≡ min n (length before)) where
  abbrev P : List ℕ
  P = place_entry above old new (take n before)

  used_is : length (take n before) ≡ used
  used_is = length-take n before ∙ sym u

  module _ (c : ControlFlow ℕ ℕ) (p : Placed above old new (take n before) places c)
      (s : Settled used k c (places ++ drop used before) after r) (depth_is : depth_of c ≡ depth old (take n before)) where
    places_are : places ≡ take used P
    places_are = rw (← used_is) p.places

    -- as many places are in use as there were
    kept : grows used k c (places ++ drop used before) ≡ false → used ≤ length P
        → next above k old new n before ≡ take used P → Stepped above k old new n before after r
    kept g h e =
        let long : length (take used P) ≡ used = length-take-le used P h in
        record {
          places = rw (s.places, g, e, long, places_are);
          depth_is = s.depth_is ∙ depth_is;
          length_is = rw (s.length_is, g, e, long);
        }

  -- the old entry was found
  found : (d : ℕ) → Placed above old new (take n before) places (Break d)
      → Settled used k (Break d) (places ++ drop used before) after r → Stepped above k old new n before after r
  unfolding next
  found d p s =
      let there : depth old (take n before) ≡ 0 → ⊥ = λ q. omega (arith, q, p.ends.0, p.ends.1) in
      let long : length P ≡ used = place_entry_length above old new (take n before) there ∙ used_is in
      kept (Break d) p s p.ends.1 refl (omega arith)
      (rw (
        take_all (max (length (take n before)) (min k (length before))) P (omega (arith, used_is)),
        take_all used P (omega arith),
      ))

  -- it was missed
  module _ (last : ℕ) (p : Placed above old new (take n before) places (Continue last))
      (s : Settled used k (Continue last) (places ++ drop used before) after r) where
    longer : length P ≡ suc used
    longer = place_entry_longer above old new (take n before) p.ends.0 ∙ ap suc used_is

    long : length places ≡ used
    long = rw (p.places, used_is, length-take-le used P (omega (arith, longer)))

    whole : length (places ++ drop used before) ≡ length before
    whole = rw (length-append places (drop used before), long, length-drop used before) (omega (arith, u))

    no_room : (max used (min k (length before)) ≡ used) → grows used k (Continue last) (places ++ drop used before) ≡ false
        → Stepped above k old new n before after r
    unfolding next
    no_room m g = kept (Continue last) p s (sym p.ends.0) g (omega (arith, longer)) (rw (used_is, m))

    last_taken : places ++ (last ∷ []) ≡ P
    last_taken =
        rw (
          p.places,
          p.ends.1,
          used_is,
          ← take-suc P used 0 (omega (arith, longer)),
          take_all (suc used) P (omega (arith, longer)),
        )

    grown : used < k → used < length before → Stepped above k old new n before after r
    unfolding next
    grown hk hl =
        let g : grows used k (Continue last) (places ++ drop used before) ≡ true =
        rw (lt-ltb used k hk, whole, lt-ltb used (length before) hl) in
        let all : next above k old new n before ≡ P =
        take_all (max (length (take n before)) (min k (length before))) P (omega (arith, used_is, longer)) in
        record {
          places =
              rw (
                s.places,
                g,
                all,
                longer,
                drop-cons before used 0 hl,
                set_at places (get_or before used 0) (drop (suc used) before) last used long,
                ← last_taken,
                append_assoc places (last ∷ []) (drop (suc used) before),
              );
          depth_is = s.depth_is ∙ sym p.ends.0;
          length_is = rw (s.length_is, g, all, longer);
        }

    missed : Stepped above k old new n before after r
    missed =
        by_cases (ltb used k)
        (λ a. by_cases (ltb used (length before)) (λ b. grown (ltb-true used k a) (ltb-true used (length before) b))
        (λ b. no_room (omega (arith, ltb-false used (length before) b)) (rw (a, whole, b))))
        (λ a. no_room (omega (arith, ltb-false used k a)) (rw a))

  pub steps : (c : ControlFlow ℕ ℕ) → Placed above old new (take n before) places c
      → Settled used k c (places ++ drop used before) after r → Stepped above k old new n before after r
  steps (Break d) p s = found d p s
  steps (Continue last) p s = missed last p s

pub whole_step : {above : Priority} {k old new n used : ℕ} {before places after : List ℕ} {c : ControlFlow ℕ ℕ} {r : Step}
    → used ≡ min n (length before) → Placed above old new (take used before) places c
    → Settled used k c (places ++ drop used before) after r → Stepped above k old new n before after r
whole_step {above} {k} {old} {new} {n} {used} {before} {places} {after} {c} {r} u p s =
    steps above k old new n before places after r used u c
    (rw (ap (λ (m : ℕ). take m before) u ∙ take_in_use n before) at p) s
