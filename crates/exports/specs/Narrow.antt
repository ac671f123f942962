-- C passes a policy and a page as 32 bits, and the proved functions take 8 and 16 (rule X1). A number that does not fit
-- becomes the largest that does, and both are past every limit: each promise of the narrowed number is one of the number
-- itself.
use Rattle.std.specs.Prelude.{ℕ, min, ◌≡◌, List, leb, Result}
use Rattle.std.proofs.Common.{arith, ◌∙◌, le-leb}
use Rattle.std.proofs.Math.ListN.{length}
use Rattle.rules.specs.Limits.{references, pages, policies, opt}
use Rattle.rules.specs.Cases.{by_cases}
use Rattle.rules.specs.Narrow.{narrow}
use Rattle.rules.specs.Refusals.{Answer, giving}
use Rattle.rules.specs.declared.refusal.Refusal.{Refusal}
use Rattle.kept.specs.declared.shown.Listing.{Listing}
use Rattle.count.specs.Count.{Counted, count_answer, count_table, list_answer, list_shown}
use Rattle.count.specs.Listing.{listing_of, Showing}
use Rattle.session.specs.declared.Session.{Session}
use Rattle.session.specs.History.{start_answer, reference_answer}
use Rattle.session.specs.Lent.{Lent}
use Rattle.session.specs.AnyMemory.{depth_in, after_reference}
use Rattle.session.specs.Answers.{fresh, Starting, Referring}
use Rattle.session.proofs.ReferAnswers.{refers}

module _ {policy k : ℕ} where
  pub count_narrowed : {n : ℕ} {trace before after : List ℕ} {r : Answer} → n ≡ min policy 255 → Counted trace n k before after r
      → Counted trace policy k before after r
  unfolding count_table count_answer
  count_narrowed {trace = trace} {before = before} cut counted =
      let c : Counted trace (min policy 255) k before _ _ = rw cut at counted in
      record {
        answer =
            c.answer
            ∙ narrow (λ p. count_answer p k (length before) trace) 255 policy (λ h. rw (le-leb policies policy (omega arith)));
        table =
            c.table ∙ narrow (λ p. count_table p k trace before) 255 policy (λ h. rw (le-leb policies policy (omega arith)));
      }

  pub list_narrowed : {n : ℕ} {trace : List ℕ} {t : ℕ} {r : Result Listing Refusal} → n ≡ min policy 255 → Showing trace n k t r
      → Showing trace policy k t r
  unfolding list_shown list_answer
  list_narrowed {trace = trace} {t = t} cut showing =
      let s : Showing trace (min policy 255) k t _ = rw cut at showing in
      record {
        shown =
            s.shown
            ∙ narrow (λ p. giving (list_answer p k trace t) (listing_of (list_shown p k trace t))) 255 policy
            (λ h. rw (le-leb policies policy (omega arith)));
      }

  pub start_narrowed : {n : ℕ} {places depths counts places' depths' counts' : List ℕ} {r : Result Session Refusal}
      → n ≡ min policy 255 → Starting n k places depths counts places' depths' counts' r
      → Starting policy k places depths counts places' depths' counts' r
  start_narrowed cut starting =
      let s : Starting (min policy 255) k _ _ _ _ _ _ _ = rw cut at starting in
      record {
        answer =
            s.answer
            ∙ narrow (λ p. giving (start_answer p k) (fresh p k)) 255 policy (λ h. rw (le-leb opt policy (omega arith)));
        places_are = s.places_are ∙ rw same;
        depths_are = s.depths_are ∙ rw same;
        counts_are = s.counts_are ∙ rw same;
      }
    where
      same : start_answer (min policy 255) k ≡ start_answer policy k
      same = narrow (λ p. start_answer p k) 255 policy (λ h. rw (le-leb opt policy (omega arith)))

pub page_narrowed : {before after : Lent} {page n : ℕ} {r : Result ℕ Refusal} → n ≡ min page 65535 → Referring before n after r
    → Referring before page after r
unfolding after_reference
page_narrowed {before} {page = page} cut referring =
    let f : Referring before (min page 65535) _ _ = rw cut at referring in
    refers
    (f.depth_is
    ∙ narrow (λ p. giving (reference_answer before.value.references p) (depth_in before p)) 65535 page
    (λ h. by_cases (leb references before.value.references) (λ e. rw e) (λ e. rw (e, le-leb pages page (omega arith)))))
    (f.memory_is
    ∙ narrow (after_reference before) 65535 page
    (λ h. by_cases (leb references before.value.references) (λ e. rw e) (λ e. rw (e, le-leb pages page (omega arith)))))
