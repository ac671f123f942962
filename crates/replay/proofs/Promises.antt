-- A session that is given a trace, reference by reference, says what a count of the whole trace says.
use Rattle.std.specs.Prelude.{ℕ, ◌≤◌, ◌<◌, ◌≡◌, refl, List, length, Err}
use Rattle.std.proofs.Common.{sym, ◌∙◌, le-leb}
use Rattle.std.proofs.lemmas.Bool.{lt-leb}
use Rattle.rules.specs.Limits.{opt}
use Rattle.rules.specs.Refusals.{Answer, number_of, place_of}
use Rattle.rules.specs.AnswerLaws.{accepted_twice}
use Rattle.rules.specs.declared.refusal.Refusal.TheVariants.{BadPolicy}
use Rattle.count.specs.Count.{Counted, count_answer, count_table}
use Rattle.replay.specs.Replayed.{Replayed, replay_answer, replay_table}

module _ {trace before after : List ℕ} {policy k : ℕ} {r : Answer} (p : Replayed trace policy k before after r) where
  -- under LRU and LFU: the same answer, refusals and their places included, and the same table
  pub replay_is_count : policy < opt → Counted trace policy k before after r
  unfolding replay_answer replay_table count_table
  replay_is_count back =
      record {
        answer = p.answer ∙ rw (lt-leb opt policy back);
        table = p.table ∙ rw (lt-leb opt policy back) (accepted_twice (count_answer policy k (length before) trace) _ before);
      }

  -- OPT, and every number above it: 5, and the table as it was
  pub replay_no_opt : opt ≤ policy → (r ≡ Err BadPolicy) × (number_of r ≡ 5) × (place_of r ≡ 0) × (after ≡ before)
  unfolding replay_answer replay_table
  replay_no_opt ahead =
      let answer : r ≡ Err BadPolicy = p.answer ∙ rw (le-leb opt policy ahead) in
      (answer, rw answer refl, rw answer refl, p.table ∙ rw (le-leb opt policy ahead))

-- two answers that both meet the promise are equal, and so are the tables
pub replay_unique : {trace before after after' : List ℕ} {policy k : ℕ} {r r' : Answer} → Replayed trace policy k before after r
    → Replayed trace policy k before after' r' → (r ≡ r') × (after ≡ after')
replay_unique a b = (a.answer ∙ sym b.answer, a.table ∙ sym b.table)
