-- A session that a start and calls gave is sound: its places hold the list's pages, each once, with its count beside it.
-- What is sound passes the other tests as well.
use Prim.Native.Nat.{ℕ, zero, suc, ◌+◌, ◌-◌, ◌≤◌, ◌<◌}
use native.Mathlib.Omega.{arith}
use Rattle.std.specs.Prelude.{false, ◌≡◌, eqb, ltb, replicate}
use Rattle.std.proofs.Math.Bool.{true}
use Rattle.std.proofs.Math.Path.{refl, sym}
use Rattle.std.proofs.Common.{◌∙◌, take_all}
use Rattle.std.proofs.lemmas.List.{get_or-map}
use mathlib.Core.List.{List, [], ◌∷◌, map}
use Rattle.std.proofs.Math.ListN.{length, get_or, length-map, get_or-append}
use Rattle.std.proofs.Math.Seq.{get_or-append-add}
use borrow.Author.Tests.{eqb-true, eqb-false, eq-eqb, ne_eqb, ltb-true, ltb-false, lt-ltb, le-ltb}
use Rattle.rules.specs.Limits.{capacities, pages, opt, lru, lfu}
use Rattle.rules.specs.Lists.{times}
use Rattle.rules.specs.Cases.{by_cases, and_left, and_right}
use Rattle.rules.specs.AllBelow.{all_below, all_make}
use Rattle.theory.specs.Policy.{policy_of}
use Rattle.theory.specs.OnePass.{list_after}
use Rattle.theory.proofs.Order.{policy_order}
use Rattle.theory.proofs.Theorem.{no_page_twice, at_most}
use Rattle.kept.specs.Below.{Below, list_below}
use Rattle.kept.specs.Entries.{entry, page_of}
use Rattle.kept.specs.Rankings.{unranked, frequency, ranking_of}
use Rattle.kept.specs.Kept.{kept}
use Rattle.kept.specs.Tally.{zeros_at}
use Rattle.kept.specs.Frequencies.{frequency_is}
use Rattle.kept.specs.Memory.{padded, places_after, counts_after}
use Rattle.session.specs.declared.Session.{Session}
use Rattle.session.specs.History.{accepted_of}
use Rattle.session.specs.Lent.{Lent}
use Rattle.session.specs.Memory.{Given}
use Rattle.session.specs.Tests.{
  fits,
  adds_up,
  countable,
  page_at,
  stands_else,
  page_stands,
  place_stands,
  counts_add_up,
  sound,
}
use Rattle.session.specs.ReferLaws.{Bounds, start_bounds, accepted_below}
use Rattle.session.specs.TotalLaws.{zeros_total, frequencies_total}
use Rattle.session.specs.TestLaws.{value_countable}

-- lists whose numbers stand in them once
times_at : (l : List ℕ) (i : ℕ) → i < length l → 1 ≤ times (get_or l i 0) l
unfolding times
times_at [] i h = absurd (omega arith)
times_at (z ∷ l) zero h = rw (eq-eqb z z refl) (omega arith)
times_at (z ∷ l) (suc i) h =
    by_cases (eqb z (get_or l i 0)) (λ e. rw e (omega arith)) (λ e. rw e (times_at l i (omega arith)))

times_two : (l : List ℕ) (j i : ℕ) → j < i → i < length l → get_or l j 0 ≡ get_or l i 0 → 2 ≤ times (get_or l i 0) l
unfolding times
times_two [] j i h inside e = absurd (omega arith)
times_two (z ∷ l) j zero h inside e = absurd (omega arith)
times_two (z ∷ l) zero (suc i) h inside e =
    rw (eq-eqb z (get_or l i 0) e) (omega (arith, times_at l i (omega arith)))
times_two (z ∷ l) (suc j) (suc i) h inside e =
    let rest = times_two l j i (omega arith) (omega arith) e in
    by_cases (eqb z (get_or l i 0)) (λ d. rw d (omega arith)) (λ d. rw d rest)

below_at : (n : ℕ) (l : List ℕ) (i : ℕ) → Below n l → i < length l → get_or l i 0 < n
below_at n [] i h inside = absurd (omega arith)
below_at n (z ∷ l) zero h inside = h.0
below_at n (z ∷ l) (suc i) h inside = below_at n l i h.1 (omega arith)

-- what stands in the memory of a list: its entries, and 0 behind them
module _ (rank : ℕ → ℕ) (l : List ℕ) where
  entry_at : (i : ℕ) → i < length l → get_or (padded (map (entry rank) l)) i 0 ≡ entry rank (get_or l i 0)
  unfolding padded
  entry_at i h =
      get_or-append (map (entry rank) l) (replicate (capacities - length (map (entry rank) l)) 0) 0 i
      (omega (arith, length-map l (entry rank)))
      ∙ get_or-map (entry rank) l i 0 0 h

  zero_behind : (i : ℕ) → length l ≤ i → get_or (padded (map (entry rank) l)) i 0 ≡ 0
  unfolding padded
  zero_behind i h =
      let long = length-map l (entry rank) in
      let past : i ≡ length (map (entry rank) l) + (i - length (map (entry rank) l)) = omega arith in
      rw (
        past,
        get_or-append-add (map (entry rank) l) (replicate (capacities - length (map (entry rank) l)) 0)
            (i - length (map (entry rank) l)) 0,
      ) (zeros_at (capacities - length (map (entry rank) l)) (i - length (map (entry rank) l)))

page_of_law : (rank : ℕ → ℕ) (p : ℕ) → p < pages → page_of (entry rank p) ≡ p
unfolding page_of entry
page_of_law rank p h = omega arith

-- the rank that LRU and LFU keep is the table's count
rank_is : (policy : ℕ) → policy < opt → (past : List ℕ) → Below pages past → (p : ℕ)
    → ranking_of policy past [] p ≡ get_or (counts_after policy past) p 0
unfolding ranking_of unranked frequency counts_after
rank_is policy back past good p =
    by_cases (eqb policy lru)
    (λ e.
    let other : eqb policy lfu ≡ false = ne_eqb policy lfu (λ q. omega (arith, eqb-true policy lru e)) in
    rw (e, other) (sym (zeros_at pages p)))
    (λ e.
    let here : eqb policy lfu ≡ true = eq-eqb policy lfu (omega (arith, eqb-false policy lru e)) in
    rw (e, here) (sym (frequency_is past good p)))

module _ {policy k : ℕ} {calls : List ℕ} {m : Lent} (g : Given policy k calls m) where
  abbrev past : List ℕ
  past = accepted_of calls

  abbrev list : List ℕ
  list = list_after (policy_of policy) k past []

  abbrev rank : ℕ → ℕ
  rank = ranking_of policy past []

  bounds : Bounds policy k
  bounds = start_bounds policy k g.value.started

  stand : m.places ≡ padded (map (entry rank) list)
  unfolding places_after kept
  stand = g.list.places_are

  module _ (i : ℕ) (inside : i < length list) where
    at_place : get_or m.places i 0 ≡ entry rank (get_or list i 0)
    at_place = rw stand (entry_at rank list i inside)

    a_page : get_or list i 0 < pages
    a_page = below_at pages list i (list_below pages (policy_of policy) k past [] (accepted_below calls)) inside

    page_is : page_at m.places i ≡ get_or list i 0
    page_is = rw at_place (page_of_law rank (get_or list i 0) a_page)

  once : (p : ℕ) → times p list ≤ 1
  once p =
      rw (take_all k list (at_most (policy_of policy) (policy_order policy) k past []))
      at (no_page_twice (policy_of policy) (policy_order policy) k k bounds.low (omega arith) past [] p)

  page_stands_law : (i : ℕ) → i < length list → page_stands m.places m.counts i ≡ true
  unfolding page_stands entry
  page_stands_law i inside =
      let count : rank (get_or list i 0) ≡ get_or m.counts (get_or list i 0) 0 =
      rw g.counted.counts_are (rank_is policy bounds.session past (accepted_below calls) (get_or list i 0)) in
      let elsewhere : (j : ℕ) → j < i → stands_else m.places (get_or list i 0) j ≡ true =
      λ j before.
      rw (
        page_is j (omega arith),
        ne_eqb (get_or list j 0) (get_or list i 0)
            (λ same. omega (arith, times_two list j i before inside same, once (get_or list i 0))),
      ) in
      rw (
        page_is i inside,
        lt-ltb (get_or list i 0) pages (a_page i inside),
        eq-eqb (get_or m.places i 0) (entry (λ p. get_or m.counts (get_or list i 0) 0) (get_or list i 0))
            (at_place i inside ∙ rw count),
        all_make (stands_else m.places (get_or list i 0)) i elsewhere,
      )

  place_stands_law : (i : ℕ) → i < capacities → place_stands m.value.length m.places m.counts i ≡ true
  unfolding place_stands
  place_stands_law i inside =
      by_cases (ltb i m.value.length)
      (λ e. rw e (page_stands_law i (omega (arith, ltb-true i m.value.length e, g.value.length_is))))
      (λ e.
      let behind : get_or m.places i 0 ≡ 0 =
      rw stand (zero_behind rank list i (omega (arith, ltb-false i m.value.length e, g.value.length_is))) in
      rw (e, eq-eqb (get_or m.places i 0) 0 behind))

  counts_add_up_law : counts_add_up m.value m.counts ≡ true
  unfolding counts_add_up counts_after
  counts_add_up_law =
      rw (g.counted.counts_are, g.value.policy_is)
      (by_cases (eqb policy lfu)
      (λ e. rw e (eq-eqb _ _ (frequencies_total past (accepted_below calls) ∙ sym g.value.references_are)))
      (λ e. rw (e, zeros_total pages pages)))

  pub given_sound : sound m ≡ true
  unfolding sound
  given_sound =
      rw (
        value_countable g.value g.tallied,
        all_make (place_stands m.value.length m.places m.counts) capacities place_stands_law,
        counts_add_up_law,
      )

pub sound_countable : (m : Lent) → sound m ≡ true → countable m.value m.depths ≡ true
unfolding sound
sound_countable m e = and_left (countable m.value m.depths) _ e

pub countable_fits : (s : Session) (depths : List ℕ) → countable s depths ≡ true → (fits s ≡ true) × (adds_up s depths ≡ true)
countable_fits s depths e = (and_left (fits s) (adds_up s depths) e, and_right (fits s) (adds_up s depths) e)

-- one place, test by test
module _ (places counts : List ℕ) (i : ℕ) {page : ℕ} (here : page ≡ page_at places i) where
  pub no_page : pages ≤ page → false ≡ page_stands places counts i
  unfolding page_stands
  no_page h = rw (← here, le-ltb page pages h)

  module _ (fine : page < pages) {made : ℕ} (e : made ≡ entry (λ p. get_or counts page 0) page) where
    pub miscounted : (get_or places i 0 ≡ made → ⊥) → false ≡ page_stands places counts i
    unfolding page_stands
    miscounted other =
        rw (
          ← here,
          lt-ltb page pages fine,
          ne_eqb (get_or places i 0) (entry (λ p. get_or counts page 0) page) (λ same. other (same ∙ sym e)),
        )

    pub stands_once : get_or places i 0 ≡ made → all_below (stands_else places page) i ≡ page_stands places counts i
    unfolding page_stands
    stands_once same =
        rw (
          ← here,
          lt-ltb page pages fine,
          eq-eqb (get_or places i 0) (entry (λ p. get_or counts page 0) page) (same ∙ e),
        )
