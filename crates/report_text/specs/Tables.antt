-- The three hit tables of an accepted trace: no count refuses it, so each table holds its policy's hits.
use Rattle.std.specs.Prelude.{ℕ, zero, suc, ◌<◌, ◌≡◌, List, ◌++◌, length, Ok}
use Rattle.std.proofs.Common.{ap, ◌∙◌, add-one, arith, le-ltb}
use Rattle.std.proofs.lemmas.Bool.{lt-leb}
use Rattle.rules.specs.Limits.{capacities, references, policies, lru, lfu, opt}
use Rattle.rules.specs.Policies.{policy_number}
use Rattle.rules.specs.Refusals.{Answer, accepted}
use Rattle.rules.specs.declared.policy.Policy.{Policy}
use Rattle.rules.specs.declared.policy.Policy.TheVariants.{Lru, Lfu, Opt}
use Rattle.count.specs.Count.{count_answer, Counted}
use Rattle.count.proofs.Promises.{entry_is_hits}
use Rattle.file_theory.specs.Decoding.{Trace}
use Rattle.file_theory.specs.RoundTrip.{GoodReferences, GoodTrace}
use Rattle.report_theory.specs.Report.{heading, ending, report_for}
use Rattle.report_theory.specs.Lines.{Holds, table_lines, hits_lines}

-- O1: none of 5, 1, 2, 4, 3 applies
count_accepts : (policy room : ℕ) (refs : List ℕ) → policy < policies → room ≡ capacities → GoodReferences refs
    → count_answer policy capacities room refs ≡ accepted
unfolding count_answer
count_accepts policy room refs p e g =
    rw (lt-leb policies policy p, le-ltb references (length refs) g.few, e, g.pages)

-- each of three tables holds its policy's hits
pub record AllHold (refs a b c : List ℕ) : Type 0 where
  pub by_lru : Holds lru refs a
  pub by_lfu : Holds lfu refs b
  pub by_opt : Holds opt refs c

policy_known : (policy : Policy) → policy_number policy < policies
policy_known Lru = omega arith
policy_known Lfu = omega arith
policy_known Opt = omega arith

pub count_holds : (policy : Policy) {refs before after : List ℕ} {answer : Answer} → length before ≡ capacities
    → GoodReferences refs
    → Counted refs (policy_number policy) capacities before after answer → Holds (policy_number policy) refs after
count_holds policy e g c zero low high = absurd (omega arith)
count_holds policy {refs} {before} e g c (suc k) low high =
    let accepts = count_accepts (policy_number policy) (length before) refs (policy_known policy) e g in
    entry_is_hits (rw (c.answer ∙ accepts) at c) k high ∙ rw add-one

-- the report that is read off such tables is the report of the trace
pub counted_report : (t : Trace) (a b c : List ℕ) → GoodTrace t → AllHold t.refs a b c
    → heading ++ table_lines a b c t.caps ++ ending (length t.refs) ≡ report_for (Ok t)
counted_report t a b c g all =
    ap {B = List ℕ} (λ body. heading ++ body ++ ending (length t.refs))
    (hits_lines t.refs a b c all.by_lru all.by_lfu all.by_opt 0 t.caps g.rise)
