-- The demands, of a session's own answers (docs/RULES.md, D1 to D3, A3, A5, A6): whatever history gives the session.
use Rattle.std.specs.Prelude.{ℕ, ◌+◌, ◌≤◌, ◌≡◌, List, [], map, reverse, length, take, get_or, Result, Ok, Err}
use Rattle.std.proofs.Common.{arith, sym, ◌∙◌}
use Rattle.rules.specs.Refusals.{giving}
use Rattle.rules.specs.Lists.{holds}
use Rattle.rules.specs.declared.refusal.Refusal.{Refusal}
use Rattle.theory.specs.Policy.{policy_of}
use Rattle.theory.specs.Plain.{cache_after, hits_at}
use Rattle.theory.specs.OnePass.{within}
use Rattle.theory.proofs.Order.{policy_order}
use Rattle.theory.proofs.Theorem.{list_is_cache, hit_by_depth, hits_and_misses, at_most}
use Rattle.kept.specs.Shown.{places_of, pages_shown, shown_back, zero_past}
use Rattle.session.specs.declared.Session.{Session}
use Rattle.kept.specs.declared.shown.Listing.{Listing}
use Rattle.session.specs.History.{accepted_of, list_now, reference_answer, capacity_answer}
use Rattle.session.specs.Lent.{Lent}
use Rattle.session.specs.Memory.{Value, Places, Depths, Given}
use Rattle.session.specs.AnyMemory.{depth_in, after_reference}
use Rattle.session.specs.Answers.{Referring}
use Rattle.session.specs.Reads.{ListRead, ReferencesRead, HitsRead, MissesRead}
use Rattle.rules.specs.AnswerLaws.{given, not_given}

-- A3: a reference that was answered with a refusal leaves all memory as it was, whatever it was
pub referenced_keeps : {before after : Lent} {page : ℕ} {r : Result ℕ Refusal} {x : Refusal} → Referring before page after r
    → r ≡ Err x → after ≡ before
unfolding after_reference
referenced_keeps {before} {page = page} f e =
    f.memory_is ∙ rw (not_given (reference_answer before.value.references page) (depth_in before page) (sym f.depth_is ∙ e))

-- what a reference answers says whether it was accepted
module _ {policy k page : ℕ} {calls : List ℕ} {before after : Lent} {r : Result ℕ Refusal}
    (g : Given policy k calls before) (f : Referring before page after r) where
  -- D3: a depth is a hit at C exactly if the plain cache of C frames held the page just before the reference
  pub referenced_hit : {d : ℕ} → r ≡ Ok d → (c : ℕ) → 1 ≤ c → c ≤ k
      → within d c ≡ holds page (cache_after (policy_of policy) c (accepted_of calls) [])
  referenced_hit e c low high =
      let depth_is = given (reference_answer (length (accepted_of calls)) page) (sym (f.answer policy k calls g) ∙ e) in
      rw (← depth_is.1)
      (hit_by_depth (policy_of policy) (policy_order policy) c k low high page (accepted_of calls) [])

module _ {policy k : ℕ} {calls : List ℕ} {s : Session} (v : Value policy k calls s) where
  -- of a list that was read: its length is at most K, it shows 0 past it, and (D3) the pages in its first C places are those
  -- of the plain cache of C frames after the references accepted
  module _ {places : List ℕ} (stand : Places policy k calls places) {r : Listing} (read : ListRead s places r) where
    long : r.length ≡ length (list_now policy k calls)
    long = read.length_is policy k calls v stand

    shown : r.places ≡ places_of (list_now policy k calls)
    shown = read.places_are policy k calls v stand

    pub listing_most : r.length ≤ k
    listing_most = rw long (at_most (policy_of policy) (policy_order policy) k (accepted_of calls) [])

    pub listing_zero : (i : ℕ) → r.length ≤ i → get_or (map (λ q. q.0) r.places) i 0 ≡ 0
    listing_zero i h = rw shown (zero_past (list_now policy k calls) i (omega (arith, long)))

    pub listing_is_cache : (c : ℕ) → 1 ≤ c → c ≤ k → (page : ℕ)
        → holds page (take c (pages_shown r.length r.places))
        ≡ holds page (cache_after (policy_of policy) c (accepted_of calls) [])
    listing_is_cache c low high page =
        rw (long, shown, shown_back (list_now policy k calls))
        (list_is_cache (policy_of policy) (policy_order policy) c k low high (accepted_of calls) [] page)

  -- of numbers that were read at a capacity: the hits are those of a whole trace with the same references, and (A5) hits and
  -- misses add up to the references accepted
  module _ {depths : List ℕ} (tallied : Depths policy k calls depths) {c h : ℕ} (low : 1 ≤ c) (high : c ≤ k)
      (hits : HitsRead s depths c (Ok h)) where
    number_is : {x y : ℕ} → Ok x ≡ giving (capacity_answer k c) y → x ≡ y
    number_is e = sym (given (capacity_answer k c) (sym e)).1

    pub session_is_count : (trace : List ℕ) → accepted_of calls ≡ reverse trace → h ≡ hits_at policy c trace
    unfolding hits_at
    session_is_count trace e = number_is (hits.hits_are policy k calls v tallied) ∙ rw e

    pub session_adds_up : {m n : ℕ} → MissesRead s depths c (Ok m) → ReferencesRead s n → h + m ≡ n
    session_adds_up misses references =
        omega (
          arith,
          number_is (hits.hits_are policy k calls v tallied),
          number_is (misses.misses_are policy k calls v tallied),
          references.references_are policy k calls v,
          hits_and_misses (policy_of policy) c (accepted_of calls) [],
        )
