-- What the promises of `count` and `list` give their users: each pins its whole answer, and the demands hold of the code's own
-- results (docs/RULES.md, D1 to D3).
use Prim.Native.Nat.{ℕ, ◌+◌, ◌≤◌, ◌<◌}
use native.Mathlib.Omega.{arith}
use Rattle.std.specs.Prelude.{◌≡◌, take, Result, Ok, Err}
use Rattle.std.proofs.Math.Path.{refl, sym, ap}
use Rattle.std.proofs.Common.{◌∙◌}
use mathlib.Core.List.{List, ◌++◌, map, reverse}
use Rattle.std.proofs.Math.ListN.{length, drop, get_or, get_or-append}
use Rattle.std.proofs.Math.Seq.{get_or-append-add, get_or-drop}
use Rattle.rules.specs.Refusals.{Answer, accepted, giving}
use Rattle.rules.specs.AnswerLaws.{not_accepted}
use Rattle.rules.specs.declared.refusal.Refusal.{Refusal}
use Rattle.rules.specs.Lists.{holds}
use Rattle.rules.specs.TableLaws.{values_length, values_at}
use Rattle.theory.specs.Policy.{policy_of}
use Rattle.theory.specs.Plain.{hits_at, hits_up_to, cache_after}
use Rattle.theory.specs.OnePass.{list_of, list_after}
use Rattle.theory.proofs.Order.{policy_order}
use Rattle.theory.proofs.Theorem.{list_is_cache, at_most}
use Rattle.count.specs.Count.{Counted, count_answer, count_table, list_answer, list_shown}
use Rattle.kept.specs.Shown.{pages_shown, shown_back, zero_past}
use Rattle.kept.specs.declared.shown.Listing.{Listing}
use Rattle.count.specs.Listing.{Showing, listing_of}

-- two answers that both meet the promise are equal, and so are the tables
pub count_unique : {trace before after after' : List ℕ} {policy k : ℕ} {r r' : Answer} → Counted trace policy k before after r
    → Counted trace policy k before after' r' → (r ≡ r') × (after ≡ after')
count_unique a b = (a.answer ∙ sym b.answer, a.table ∙ sym b.table)

pub list_unique : {trace : List ℕ} {policy k t : ℕ} {r r' : Result Listing Refusal} → Showing trace policy k t r
    → Showing trace policy k t r' → r ≡ r'
list_unique a b = a.shown ∙ sym b.shown

module _ {trace before after : List ℕ} {policy k : ℕ} where
  -- D2, D3: after an accepted count entry C-1 is the number of hits of the plain cache of C frames
  pub entry_is_hits : Counted trace policy k before after accepted → (c : ℕ) → c < k
      → get_or after c 0 ≡ hits_at policy (c + 1) trace
  unfolding count_table
  entry_is_hits p c h =
      let yes : count_answer policy k (length before) trace ≡ accepted = sym p.answer in
      let filled : after ≡ hits_up_to policy k trace ++ drop k before = p.table ∙ rw yes in
      let hits : ℕ → ℕ = λ (i : ℕ). hits_at policy i trace in
      let one : 1 + c ≡ c + 1 = omega arith in
      rw (
        filled,
        get_or-append (hits_up_to policy k trace) (drop k before) 0 c (omega (arith, values_length hits 1 k)),
        values_at hits 1 k c h,
        one,
      )

  -- A4: later entries keep their values
  pub later_entries : Counted trace policy k before after accepted → (i : ℕ) → get_or after (k + i) 0 ≡ get_or before (k + i) 0
  unfolding count_table
  later_entries p i =
      let yes : count_answer policy k (length before) trace ≡ accepted = sym p.answer in
      let filled : after ≡ hits_up_to policy k trace ++ drop k before = p.table ∙ rw yes in
      let hits : List ℕ = hits_up_to policy k trace in
      let behind : get_or (hits ++ drop k before) (length hits + i) 0 ≡ get_or (drop k before) i 0 =
      get_or-append-add hits (drop k before) i 0 in
      rw filled (rw (values_length (λ (c : ℕ). hits_at policy c trace) 1 k) at behind) ∙ get_or-drop k before i 0

  -- A3: a refusal leaves the table as it was
  pub refusal_keeps : {refused : Refusal} → Counted trace policy k before after (Err refused) → after ≡ before
  unfolding count_table
  refusal_keeps {refused} p =
      let no-count : count_answer policy k (length before) trace ≡ Err refused = sym p.answer in
      p.table ∙ rw no-count

-- what was given, of an accepted call
given : {A : Type 0} {a b : A} (answer : Answer) → Ok b ≡ giving answer a → (answer ≡ accepted) × (b ≡ a)
given {a = a} (Ok u) e = (refl, ap (λ r. ok_or_else a r) e)
  where
    ok_or_else : {A : Type 0} → A → Result A Refusal → A
    ok_or_else a (Ok b) = b
    ok_or_else a (Err r) = a
given (Err r) e = not_accepted (sym e)

-- of a list that was answered: its length is at most K, and it shows 0 past it
module _ {trace : List ℕ} {policy k t : ℕ} {r : Listing} (p : Showing trace policy k t (Ok r)) where
  accepted_is : list_answer policy k trace t ≡ accepted
  accepted_is = (given (list_answer policy k trace t) p.shown).0

  listing_is : r ≡ listing_of (list_shown policy k trace t)
  listing_is = (given (list_answer policy k trace t) p.shown).1

  pub listed_zero : (i : ℕ) → r.length ≤ i → get_or (map (λ q. q.0) r.places) i 0 ≡ 0
  listed_zero i h =
      let long : r.length ≡ length (list_shown policy k trace t) = rw listing_is in
      rw listing_is (zero_past (list_shown policy k trace t) i (omega (arith, long)))

  shown_is : pages_shown r.length r.places ≡ list_shown policy k trace t
  shown_is = rw listing_is (shown_back (list_shown policy k trace t))

  is_list : pages_shown r.length r.places ≡ list_after (policy_of policy) k (reverse (take t trace)) (drop t trace)
  unfolding list_shown list_of
  is_list = rw (shown_is, accepted_is)

  pub listed_most : r.length ≤ k
  unfolding list_shown list_of
  listed_most =
      rw (listing_is, accepted_is) (at_most (policy_of policy) (policy_order policy) k (reverse (take t trace)) (drop t trace))

  -- D3: the pages in its first C places are those of the plain cache of C frames after t references, with the rest of the
  -- trace to come
  pub listed_is_cache : (c : ℕ) → 1 ≤ c → c ≤ k → (page : ℕ)
      → holds page (take c (pages_shown r.length r.places))
      ≡ holds page (cache_after (policy_of policy) c (reverse (take t trace)) (drop t trace))
  listed_is_cache c low high page =
      rw is_list
      (list_is_cache (policy_of policy) (policy_order policy) c k low high (reverse (take t trace)) (drop t trace) page)
