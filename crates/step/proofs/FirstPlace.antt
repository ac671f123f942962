-- Place 1 and what follows it, over plain lists: the new entry stands first, and the old first entry is carried down the rest.
use Rattle.std.proofs.Common.{ℕ, ◌+◌, ◌-◌, ◌≤◌, ◌<◌, arith, ◌≡◌, refl, List, [], ◌∷◌, append-nil, eqb, length, get_or}
use Rattle.std.proofs.Common.{set, eq-eqb, ne_eqb, ControlFlow, Break, Continue}
use Rattle.std.proofs.Math.Seq.{take-length, drop-length}
use borrow.Rule.Slice.PartMut.{put_mid, mid_of}
use Rattle.theory.specs.Priority.{Priority}
use Rattle.theory.specs.OnePass.{carry, depth_from}
use Rattle.kept.specs.Entries.{place_entry, always}
use Rattle.step.specs.EntryLengths.{depth_zero, depth_later}
use Rattle.theory.proofs.Depth.{depth_most}
use Rattle.rules.specs.Cases.{by_cases}
use Rattle.step.specs.Stepped.{Carrying, Placed}

-- under LRU carrying begins with the entry itself, from place 1 on
carry_place_entry : (entry : ℕ) (l : List ℕ) → carry always entry entry l ≡ place_entry always entry entry l
unfolding carry place_entry always
carry_place_entry entry [] = refl
carry_place_entry entry (y ∷ l) = by_cases (eqb y entry) (λ e. rw e) (λ e. rw e)

pub shift_places : {entry : ℕ} {before after : List ℕ} {r : ControlFlow ℕ ℕ} → Carrying always entry entry before after r
    → Placed always entry entry before after r
shift_places {entry} {before} h =
    let same = carry_place_entry entry before in
    record { places = rw (← same) h.places; ends = rw (← same) h.ends }

-- a depth is no more than there are places
pub part_depth : {above : Priority} {old first d : ℕ} {l after : List ℕ} → Carrying above old first l after (Break d)
    → d ≤ length l
part_depth {above} {old} {first} {d} {l} w = omega (arith, w.ends.1, depth_most 0 old l)

-- the list after place 1, which is handed on as a part once place 1 has the new entry
module _ (y : ℕ) (l : List ℕ) where
  all_but_first : length (y ∷ l) - 1 ≡ length l
  all_but_first = omega arith

  put_back : (after : List ℕ) → put_mid 1 (length (y ∷ l) - 1) (y ∷ l) after ≡ y ∷ after
  put_back after = rw (all_but_first, drop-length l, append-nil after)

  part_is : mid_of 1 (length (y ∷ l) - 1) (y ∷ l) ≡ l
  part_is = rw (all_but_first, take-length l)

module _ {above : Priority} {old new : ℕ} where
  pub place_empty : {l : List ℕ} → length l ≡ 0 → Placed above old new l l (Continue new)
  unfolding place_entry depth_from
  place_empty {l = []} h = record { places = refl; ends = (refl, refl) }
  place_empty {l = y ∷ l} h = absurd (omega arith)

  pub place_first : {l : List ℕ} → 0 < length l → get_or l 0 0 ≡ old → Placed above old new l (set l 0 new) (Break 1)
  unfolding place_entry depth_from
  place_first {l = []} h e = absurd (omega arith)
  place_first {l = y ∷ l} h e = record { places = rw (eq-eqb y old e, take-length l); ends = (omega arith, rw (eq-eqb y old e)) }

  -- the old entry is not in the part
  pub place_missing : {l after : List ℕ} {last : ℕ} → 0 < length l → (get_or l 0 0 ≡ old → ⊥)
      → Carrying above old (get_or l 0 0) (mid_of 1 (length (set l 0 new) - 1) (set l 0 new)) after (Continue last)
      → Placed above old new l (put_mid 1 (length (set l 0 new) - 1) (set l 0 new) after) (Continue last)
  unfolding place_entry depth_from
  place_missing {l = []} h n w = absurd (omega arith)
  place_missing {l = y ∷ l} {after} {last} h n w =
      let v : Carrying above old y l after (Continue last) = rw (part_is new l) at w in
      record {
        places = rw (put_back new l after, ne_eqb y old n, v.places);
        ends = (rw (ne_eqb y old n, depth_zero 0 1 old l v.ends.0), rw (ne_eqb y old n) v.ends.1);
      }

  -- the old entry is in the part
  pub place_found : {l after : List ℕ} {d : ℕ} → 0 < length l → (get_or l 0 0 ≡ old → ⊥)
      → Carrying above old (get_or l 0 0) (mid_of 1 (length (set l 0 new) - 1) (set l 0 new)) after (Break d)
      → Placed above old new l (put_mid 1 (length (set l 0 new) - 1) (set l 0 new) after) (Break (d + 1))
  unfolding place_entry depth_from
  place_found {l = []} h n w = absurd (omega arith)
  place_found {l = y ∷ l} {after} {d} h n w =
      let v : Carrying above old y l after (Break d) = rw (part_is new l) at w in
      record {
        places = rw (put_back new l after, ne_eqb y old n, v.places);
        ends = (omega arith, rw (ne_eqb y old n, depth_later 0 old l (λ q. omega (arith, q, v.ends.0, v.ends.1)), ← v.ends.1));
      }
