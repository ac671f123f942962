-- The reads' promises: what a read makes of any memory is, in memory that a start and calls gave, what the rules say; and
-- each answer of the code is what it makes of the memory.
use Prim.Native.Nat.{ℕ, ◌≤◌, ◌<◌, min}
use Rattle.std.proofs.Common.{arith, sym, ◌-◌, ◌∙◌, le-leb, leb-true}
use Rattle.std.specs.Prelude.{◌≡◌, leb, Result, Ok, Err}
use Rattle.std.proofs.Math.Path.{ap}
use mathlib.Core.List.{List, []}
use Rattle.std.proofs.lemmas.Bool.{lt-leb}
use Rattle.rules.specs.Limits.{capacities}
use Rattle.rules.specs.Refusals.{Answer, giving}
use Rattle.rules.specs.AnswerLaws.{given}
use Rattle.rules.specs.declared.refusal.Refusal.{Refusal}
use Rattle.rules.specs.declared.refusal.Refusal.TheVariants.{BadCapacity}
use Rattle.rules.specs.Cases.{by_cases}
use Rattle.rules.specs.declared.Page.{Page}
use Rattle.theory.specs.Policy.{policy_of}
use Rattle.theory.proofs.Order.{policy_order}
use Rattle.theory.proofs.Theorem.{hits_by_depth, hits_and_misses}
use Rattle.kept.specs.Tally.{up_to, tally_hits}
use Rattle.kept.specs.Memory.{length_after, depths_after}
use Rattle.kept.specs.Shown.{shown_places}
use Rattle.run.specs.RunLaws.{run_shown}
use Rattle.session.specs.declared.Session.{Session}
use Rattle.session.specs.History.{accepted_of, capacity_answer, hits_now, misses_now}
use Rattle.session.specs.Memory.{Value, Depths}
use Rattle.session.specs.AnyMemory.{hits_in, misses_in}
use Rattle.session.specs.Reads.{ListRead, HitsRead, MissesRead}
use Rattle.session.specs.ReferLaws.{start_bounds, accepted_below}

-- 7 is answered exactly if the capacity is not 1 to K
pub low_refused : (k c : ℕ) (n : ℕ) → c < 1 → Err BadCapacity ≡ giving (capacity_answer k c) n
low_refused k c n h = rw (lt-leb 1 c h)

pub high_refused : (k c : ℕ) (n : ℕ) → 1 ≤ c → k < c → Err BadCapacity ≡ giving (capacity_answer k c) n
high_refused k c n l h = rw (le-leb 1 c l, lt-leb c k h)

pub within_answered : (k c : ℕ) (m n : ℕ) → 1 ≤ c → c ≤ k → m ≡ n → Ok m ≡ giving (capacity_answer k c) n
within_answered k c m n l h e = rw (le-leb 1 c l, le-leb c k h, e)

-- only at a capacity from 1 to K does the number matter
same_asked : (k c m n : ℕ) → (1 ≤ c → c ≤ k → m ≡ n) → giving (capacity_answer k c) m ≡ giving (capacity_answer k c) n
same_asked k c m n same =
    by_cases (leb 1 c)
    (λ l. by_cases (leb c k) (λ h. rw (l, h, same (leb-true 1 c l) (leb-true c k h))) (λ h. rw (l, h)))
    (λ l. rw l)

module _ {policy k : ℕ} {calls : List ℕ} {s : Session} {depths : List ℕ} (v : Value policy k calls s)
    (d : Depths policy k calls depths) (c : ℕ) (low : 1 ≤ c) (high : c ≤ k) where
  -- the sum of the depths is the hits of the plain cache
  hits_in_law : hits_in depths c ≡ hits_now policy c calls
  unfolding depths_after
  hits_in_law =
      let b = start_bounds policy k v.started in
      let most : min c capacities ≡ c = omega (arith, b.high) in
      ap (up_to depths) most ∙ ap (λ (table : List ℕ). up_to table c) d.depths_are
      ∙ tally_hits (policy_of policy) k c (accepted_of calls) [] (omega (arith, b.high))
      ∙ hits_by_depth (policy_of policy) (policy_order policy) c k low high (accepted_of calls) []

  misses_in_law : misses_in s depths c ≡ misses_now policy c calls
  misses_in_law =
      omega (arith, hits_in_law, v.references_are, hits_and_misses (policy_of policy) c (accepted_of calls) [])

module _ {s : Session} {depths : List ℕ} {c : ℕ} {r : Result ℕ Refusal} where
  pub hits_read : r ≡ giving (capacity_answer s.k c) (hits_in depths c) → HitsRead s depths c r
  hits_read e =
      record {
        answered = e;
        hits_are =
            λ policy k calls v d.
            e ∙ rw v.k_is (same_asked k c (hits_in depths c) (hits_now policy c calls) (hits_in_law v d c));
      }

  pub misses_read : r ≡ giving (capacity_answer s.k c) (misses_in s depths c) → MissesRead s depths c r
  misses_read e =
      record {
        answered = e;
        misses_are =
            λ policy k calls v d.
            e ∙ rw v.k_is (same_asked k c (misses_in s depths c) (misses_now policy c calls) (misses_in_law v d c));
      }

-- where hits are answered, they are the sum of the depths
pub hits_found : {s : Session} {depths : List ℕ} {c h : ℕ} → HitsRead s depths c (Ok h) → h ≡ hits_in depths c
hits_found {s} {depths} {c} {h} hits = sym (given (capacity_answer s.k c) (sym hits.answered)).1

-- the misses are what the hits leave of the references
pub misses_from_hits : {s : Session} {depths : List ℕ} {c h m : ℕ} → HitsRead s depths c (Ok h) → m ≡ s.references - h
    → MissesRead s depths c (Ok m)
misses_from_hits {s} {depths} {c} {h} {m} hits e =
    let g = given (capacity_answer s.k c) (sym hits.answered) in
    let same : m ≡ misses_in s depths c = omega (arith, e, g.1) in
    misses_read (ap Ok same ∙ sym (ap (λ (a : Answer). giving a (misses_in s depths c)) g.0))

pub list_read : {s : Session} {places : List ℕ} {shown : List Page} → shown ≡ shown_places s.length places
    → ListRead s places (record { length = s.length; places = shown })
unfolding length_after
list_read e =
    record {
      answered = rw e;
      length_is = λ policy k calls v p. v.length_is;
      places_are =
          λ policy k calls v p.
          run_shown policy k (accepted_of calls) [] (start_bounds policy k v.started).high (accepted_below calls)
          v.length_is p.places_are e;
    }
