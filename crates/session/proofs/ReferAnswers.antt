-- A reference's promise: what it makes of any memory is, in memory that a start and calls gave, what the rules say; and each
-- answer of the code is what it makes of the memory.
use Rattle.std.specs.Prelude.{ℕ, ◌≤◌, ◌<◌, ◌≡◌, refl, List, [], ◌∷◌, leb, length, Result, Ok, Err}
use Rattle.std.proofs.Common.{arith, sym, ◌∙◌, ap, subst₂}
use borrow.Author.Tests.{le-leb, lt-leb}
use Rattle.rules.specs.Limits.{references, pages}
use Rattle.rules.specs.Refusals.{giving}
use Rattle.rules.specs.declared.refusal.Refusal.{Refusal}
use Rattle.rules.specs.declared.refusal.Refusal.TheVariants.{SessionFull, BadPage}
use Rattle.rules.specs.Cases.{by_cases}
use Rattle.run.specs.ReferredAll.{run_memory, memory_then, memory_after, depth_after, ReferredAll}
use Rattle.session.specs.declared.Session.{Session}
use Rattle.session.specs.History.{reference_answer, accepted_of, depth_of}
use Rattle.session.specs.Lent.{Lent, lent_of}
use Rattle.session.specs.Memory.{Given}
use Rattle.session.specs.AnyMemory.{as_run, depth_in, advanced, lent_as, after_reference}
use Rattle.session.specs.Answers.{Referring}
use Rattle.session.specs.ReferLaws.{three_ways, accepted_full, accepted_bad}
use Rattle.session.proofs.SessionLaws.{accepted_depth, accepted_given}

module _ {policy k : ℕ} {calls : List ℕ} {m : Lent} (g : Given policy k calls m) (page : ℕ) where
  refer_answer : giving (reference_answer m.value.references page) (depth_in m page)
      ≡ giving (reference_answer (length (accepted_of calls)) page) (depth_of policy k calls page)
  unfolding depth_in
  refer_answer =
      rw g.value.references_are
      (three_ways calls page (λ full. rw (le-leb references (length (accepted_of calls)) full))
      (λ room bad. rw (lt-leb references (length (accepted_of calls)) room, le-leb pages page bad))
      (λ room fine.
      rw (lt-leb references (length (accepted_of calls)) room, lt-leb pages page fine, g.value.policy_is)
      (ap Ok (accepted_depth g page room fine))))

  -- a refused reference is not part of the history: the same session stands, with one call more
  same_given : accepted_of (page ∷ calls) ≡ accepted_of calls → Given policy k (page ∷ calls) m
  same_given e =
      record {
        value =
            record {
              started = g.value.started;
              policy_is = g.value.policy_is;
              k_is = g.value.k_is;
              length_is = rw e g.value.length_is;
              references_are = rw e g.value.references_are;
            };
        list = record { places_are = rw e g.list.places_are };
        tallied = record { depths_are = rw e g.tallied.depths_are };
        counted = record { counts_are = rw e g.counted.counts_are };
      }

  refer_given : Given policy k (page ∷ calls) (after_reference m page)
  unfolding after_reference
  refer_given =
      three_ways calls page
      (λ full.
      rw (le-leb references m.value.references (omega (arith, g.value.references_are)))
      (same_given (accepted_full calls page full)))
      (λ room bad.
      rw (lt-leb references m.value.references (omega (arith, g.value.references_are)), le-leb pages page bad)
      (same_given (accepted_bad calls page room bad)))
      (λ room fine.
      rw (lt-leb references m.value.references (omega (arith, g.value.references_are)), lt-leb pages page fine)
      (subst₂ (λ (p l : ℕ). Given policy k (page ∷ calls) (lent_as m.value (memory_then p l page 0 0 (as_run m))))
      (sym g.value.policy_is) (sym g.value.k_is) (accepted_given g page room fine)))

-- what a reference makes of any memory is all that there is to show
pub refers : {before after : Lent} {page : ℕ} {r : Result ℕ Refusal}
    → r ≡ giving (reference_answer before.value.references page) (depth_in before page) → after ≡ after_reference before page
    → Referring before page after r
refers {page = page} told left =
    record {
      depth_is = told;
      memory_is = left;
      answer = λ policy k calls g. told ∙ refer_answer g page;
      next = λ policy k calls g. rw left (refer_given g page);
    }

-- a reference leaves the policy and K, in any memory
pub policy_stays : {before after : Lent} {page : ℕ} {r : Result ℕ Refusal} → Referring before page after r
    → (after.value.policy ≡ before.value.policy) × (after.value.k ≡ before.value.k)
unfolding after_reference
policy_stays {before} {page = page} f =
    rw f.memory_is
    (by_cases (leb references before.value.references) (λ e. rw e (refl, refl))
    (λ e. by_cases (leb pages page) (λ d. rw (e, d) (refl, refl)) (λ d. rw (e, d) (refl, refl))))

module _ {m : Lent} {page : ℕ} where
  pub refer_full : references ≤ m.value.references
      → Referring m page m (Err SessionFull)
  unfolding after_reference
  refer_full h =
      refers (rw (le-leb references m.value.references h)) (rw (le-leb references m.value.references h))

  pub refer_bad : m.value.references < references → pages ≤ page
      → Referring m page m (Err (BadPage 0))
  unfolding after_reference
  refer_bad h p =
      refers (rw (lt-leb references m.value.references h, le-leb pages page p))
      (rw (lt-leb references m.value.references h, le-leb pages page p))

-- one page, with nothing found ahead
pub refer_done : {s : Session} {page : ℕ} {places depths counts places' depths' counts' : List ℕ} {used d : ℕ}
    → s.references < references → page < pages
    → ReferredAll s.policy s.k (page ∷ []) (0 ∷ []) 0 (run_memory s.length places depths counts)
    (run_memory used places' depths' counts') d
    → Referring (lent_of s places depths counts) page (lent_of (advanced s used) places' depths' counts') (Ok d)
unfolding depth_in after_reference depth_after memory_after
refer_done {s} {page} room fine done =
    refers
    (rw (lt-leb references s.references room, lt-leb pages page fine) (ap Ok done.depth_is))
    (rw (lt-leb references s.references room, lt-leb pages page fine) (ap (lent_as s) done.memory_is))
