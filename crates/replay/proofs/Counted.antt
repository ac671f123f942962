-- What a count answers of a trace whose session was started, by what the session made of it; and that a replay answers it.
use Rattle.std.specs.Prelude.{ℕ, ◌≤◌, ◌<◌, ◌≡◌, List, length, Result, Ok, Err}
use Rattle.std.proofs.Common.{arith, sym, ◌∙◌, le-leb, le-ltb, lt-ltb}
use Rattle.std.proofs.lemmas.Bool.{lt-leb}
use Rattle.rules.specs.Limits.{capacities, references, policies, opt}
use Rattle.rules.specs.Refusals.{Answer, accepted}
use Rattle.rules.specs.AnswerLaws.{accepted_twice}
use Rattle.rules.specs.declared.refusal.Refusal.{Refusal}
use Rattle.rules.specs.declared.refusal.Refusal.TheVariants.{TooManyReferences, ShortTable, BadPage}
use Rattle.theory.specs.OnePass.{list_after}
use Rattle.kept.specs.Filled.{filled}
use Rattle.count.specs.Count.{Counted, count_answer, count_table}
use Rattle.count.specs.Checks.{limits_answer}
use Rattle.session.specs.declared.Session.{Session}
use Rattle.session.specs.History.{start_answer, accepted_of}
use Rattle.session.specs.Lent.{Lent, lent_of}
use Rattle.session.specs.Answers.{Starting, fresh}
use Rattle.session.specs.Driving.{begun}
use Rattle.session.specs.ReferLaws.{Bounds, start_bounds}
use Rattle.replay.specs.Replayed.{Replayed, replay_answer, replay_table}
use Rattle.replay.specs.Steps.{OnlyStarted, Followed}
use Rattle.replay.proofs.Promises.{replay_is_count}
use Rattle.replay.proofs.ReplayLaws.{replay_many, replay_short, replay_bad, replay_done}
use Rattle.replay.proofs.Followed.{accepted_in, all_accepted, one_refused}

-- the refusals 5, 1 and 2 of a trace whose session was started
pub limits_many : (policy k n : ℕ) → start_answer policy k ≡ accepted → references < n
    → limits_answer policy k n ≡ Err TooManyReferences
limits_many policy k n e many =
    let b = start_bounds policy k e in
    let small : policy < policies = omega (arith, b.session) in
    rw (lt-leb policies policy small, le-leb 1 k b.low, le-leb k capacities b.high, lt-ltb references n many)

pub limits_none : (policy k n : ℕ) → start_answer policy k ≡ accepted → n ≤ references → limits_answer policy k n ≡ accepted
limits_none policy k n e few =
    let b = start_bounds policy k e in
    let small : policy < policies = omega (arith, b.session) in
    rw (lt-leb policies policy small, le-leb 1 k b.low, le-leb k capacities b.high, le-ltb references n few)

module _ {s : Session} {places depths counts : List ℕ} (only_started : OnlyStarted s places depths counts)
    (trace table : List ℕ) where
  bounds : Bounds s.policy s.k
  bounds = start_bounds s.policy s.k only_started.value.started

  begins : s ≡ fresh s.policy s.k
  unfolding list_after accepted_of
  begins =
      let none = only_started.value.length_is in
      let first = only_started.value.references_are in
      λ i. record { policy = s.policy; k = s.k; length = none i; references = first i }

  pub drive_many : references < length trace → Counted trace s.policy s.k table table (Err TooManyReferences)
  drive_many many =
      replay_is_count (replay_many s.policy s.k trace table only_started.value.started many) bounds.session

  module _ (few : length trace ≤ references) where
    pub drive_short : length table < s.k → Counted trace s.policy s.k table table (Err ShortTable)
    drive_short short =
        replay_is_count (replay_short s.policy s.k trace table only_started.value.started few short) bounds.session

    module _ (room : s.k ≤ length table) {now : Lent} {r : Answer}
        (followed : Followed trace (lent_of s places depths counts) now r) where
      pub drive_bad : accepted_in (length trace) r < length trace
          → Counted trace s.policy s.k table table (Err (BadPage (accepted_in (length trace) r)))
      drive_bad bad =
          replay_is_count
          (replay_bad s.policy s.k trace table only_started.value.started few room begins followed (one_refused followed bad))
          bounds.session

      -- the trace is the history, so the depths are those of its run
      pub drive_done : length trace ≤ accepted_in (length trace) r → {after : List ℕ} → after ≡ filled now.depths s.k table
          → Counted trace s.policy s.k table after accepted
      drive_done all filled_up =
          replay_is_count
          (replay_done s.policy s.k trace table only_started.value.started few room begins followed
          (all_accepted followed all) filled_up)
          bounds.session

-- the promise, by what the start answered
pub replay_driven : {policy k : ℕ} {places depths counts places' depths' counts' : List ℕ} {answer : Result Session Refusal}
    → Starting policy k places depths counts places' depths' counts' answer → (trace table : List ℕ) {s : Session}
    {after : List ℕ} {r : Answer} → answer ≡ Ok s → Counted trace s.policy s.k table after r
    → Replayed trace policy k table after r
unfolding replay_answer replay_table count_table
replay_driven {policy} {k} p trace table e counted =
    let b = start_bounds policy k (begun p e).0 in
    let c : Counted trace policy k table _ _ = rw (begun p e).1 at counted in
    record {
      answer = c.answer ∙ rw (lt-leb opt policy b.session);
      table =
          c.table
          ∙ rw (lt-leb opt policy b.session) (sym (accepted_twice (count_answer policy k (length table) trace) _ table));
    }
