-- What crate session answers, looked at by its cases, gives what the exported calls promise; and so does 40 where the test
-- fails, since no history gives memory that fails it.
use Rattle.std.specs.Prelude.{ℕ, suc, true, false, ◌≡◌, refl, List, map, replicate, Result, Ok, Err}
use Rattle.std.proofs.Common.{arith, sym, ◌∙◌, ap, subst}
use Rattle.rules.specs.Limits.{capacities, pages}
use Rattle.rules.specs.Refusals.{Answer, accepted, giving, when_accepted, unsound, refusal_number}
use Rattle.rules.specs.Told.{Told, told, told_of}
use Rattle.rules.specs.Cases.{clash}
use Rattle.rules.specs.declared.refusal.Refusal.{Refusal}
use Rattle.session.specs.declared.Session.{Session}
use Rattle.kept.specs.declared.shown.Listing.{Listing}
use Rattle.session.specs.History.{start_answer}
use Rattle.session.specs.Lent.{Lent, lent_of}
use Rattle.session.specs.Tests.{fits, countable}
use Rattle.session.specs.TestLaws.{value_fits, value_countable}
use Rattle.session.specs.Answers.{fresh, Starting, Referring}
use Rattle.session.specs.Reads.{ListRead, ReferencesRead, HitsRead, MissesRead}
use Rattle.session.proofs.ReferAnswers.{policy_stays}
use Rattle.exports.specs.Lent.{session_of}
use Rattle.exports.specs.Trace.{page_number}
use Rattle.exports.specs.Session.{
  start_lent,
  StartTold,
  ReferTold,
  ListShown,
  ReferencesTold,
  HitsTold,
  MissesTold,
}

-- what a start leaves, whichever its answer is
record Left (a : Answer) (before : Lent) (places depths counts : List ℕ) : Type 0 where
  places_are : places ≡ when_accepted a (replicate capacities 0) before.places
  depths_are : depths ≡ when_accepted a (replicate (suc capacities) 0) before.depths
  counts_are : counts ≡ when_accepted a (replicate pages 0) before.counts

module _ (wanted limit : ℕ) (before : Lent) {places depths counts : List ℕ} where
  begun_by : (a : Answer) (b : Session) → Ok b ≡ giving a (fresh wanted limit)
      → Left a before places depths counts
      → (a ≡ accepted) × (lent_of b places depths counts ≡ when_accepted a (start_lent wanted limit) before)
  begun_by (Ok u) b e left =
      let same : b ≡ fresh wanted limit = cc in
      (refl, rw (same, left.places_are, left.depths_are, left.counts_are))
  begun_by (Err x) b e left = absurd (let z : ◌≡◌ {A = ℕ} 0 1 = cc in let w : ⊥ = omega arith in w)

  refused_by : (a : Answer) (x : Refusal) → Err x ≡ giving a (fresh wanted limit)
      → Left a before places depths counts
      → (a ≡ Err x) × (lent_of before.value places depths counts ≡ when_accepted a (start_lent wanted limit) before)
  refused_by (Ok u) x e left = absurd (let z : ◌≡◌ {A = ℕ} 0 1 = cc in let w : ⊥ = omega arith in w)
  refused_by (Err y) x e left =
      let same : x ≡ y = cc in
      (rw same, rw (left.places_are, left.depths_are, left.counts_are))

module _ {wanted limit : ℕ} {before : Lent} {places depths counts : List ℕ} {r : Result Session Refusal}
    (s : Starting wanted limit before.places before.depths before.counts places depths counts r) where
  left : Left (start_answer wanted limit) before places depths counts
  left = record { places_are = s.places_are; depths_are = s.depths_are; counts_are = s.counts_are }

  pub begun : (b : Session) → r ≡ Ok b → StartTold wanted limit before (lent_of b places depths counts) 0
  begun b e =
      let all = begun_by wanted limit before (start_answer wanted limit) b (sym e ∙ s.answer) left in
      record { answered = rw all.0; memory = all.1 }

  pub not_begun : (x : Refusal) → r ≡ Err x
      → StartTold wanted limit before (lent_of before.value places depths counts) (refusal_number x)
  not_begun x e =
      let all = refused_by wanted limit before (start_answer wanted limit) x (sym e ∙ s.answer) left in
      record { answered = rw all.0; memory = all.1 }

-- a reference
module _ {before : Lent} {page : ℕ} {answer : Told} where
  pub refer_unsound : fits before.value ≡ false → answer ≡ told unsound 0 → ReferTold before page before answer
  refer_unsound broken e =
      record {
        answered = e ∙ rw broken;
        memory = rw broken;
        depth_is = λ policy k calls g. clash (value_fits g.value) broken;
        next = λ policy k calls g. clash (value_fits g.value) broken;
      }

  answered_after : {after : Lent} {r : Result ℕ Refusal} → fits before.value ≡ true → Referring before page after r
      → answer ≡ told_of r → ReferTold before page after answer
  answered_after passed f e =
      record {
        answered =
            e ∙ rw (passed, f.depth_is);
        memory = rw passed f.memory_is;
        depth_is =
            λ policy k calls g. e ∙ rw (f.answer policy k calls g);
        next = f.next;
      }

  -- the policy and K were passed by value: a reference leaves them
  pub referred : {s : Session} {places depths counts : List ℕ} {r : Result ℕ Refusal} → fits before.value ≡ true
      → Referring before page (lent_of s places depths counts) r → answer ≡ told_of r
      → ReferTold before page
      (lent_of (session_of before.value.policy before.value.k s.length s.references) places depths counts) answer
  referred {s} {places} {depths} {counts} passed f e =
      let stays = policy_stays f in
      let same : s ≡ session_of before.value.policy before.value.k s.length s.references =
      λ i. record { policy = stays.0 i; k = stays.1 i; length = s.length; references = s.references } in
      subst (λ (v : Session). ReferTold before page (lent_of v places depths counts) answer) same (answered_after passed f e)

-- the reads
module _ {s : Session} where
  pub list_unsound : {places before : List ℕ} {answer : Told} → fits s ≡ false → answer ≡ told unsound 0
      → ListShown s places before before answer
  list_unsound broken e =
      record {
        answered = e ∙ rw broken;
        memory = rw broken;
        length_is = λ policy k calls v p. clash (value_fits v) broken;
        shown_is = λ policy k calls v p. clash (value_fits v) broken;
      }

  pub list_shown_law : {places before after : List ℕ} {r : Listing} → fits s ≡ true → ListRead s places r
      → after ≡ map page_number r.places → ListShown s places before after (told 0 r.length)
  list_shown_law passed read shown =
      record {
        answered = rw (passed, read.answered);
        memory = rw passed (shown ∙ rw read.answered);
        length_is = λ policy k calls v p. rw (read.length_is policy k calls v p);
        shown_is = λ policy k calls v p. shown ∙ rw (read.places_are policy k calls v p);
      }

  pub references_unsound : {answer : Told} → fits s ≡ false → answer ≡ told unsound 0 → ReferencesTold s answer
  references_unsound broken e =
      record { answered = e ∙ rw broken; references_are = λ policy k calls v. clash (value_fits v) broken }

  pub references_told : {r : ℕ} → fits s ≡ true → ReferencesRead s r → ReferencesTold s (told 0 r)
  references_told passed read =
      record {
        answered = rw (passed, read.answered);
        references_are = λ policy k calls v. ap (told 0) (read.references_are policy k calls v);
      }

  module _ {depths : List ℕ} {c : ℕ} {answer : Told} where
    pub hits_unsound : countable s depths ≡ false → answer ≡ told unsound 0 → HitsTold s depths c answer
    hits_unsound broken e =
        record { answered = e ∙ rw broken; hits_are = λ policy k calls v d. clash (value_countable v d) broken }

    pub hits_told : {r : Result ℕ Refusal} → countable s depths ≡ true → HitsRead s depths c r → answer ≡ told_of r
        → HitsTold s depths c answer
    hits_told passed read e =
        record {
          answered = e ∙ rw (passed, read.answered);
          hits_are =
              λ policy k calls v d.
              e ∙ rw (read.hits_are policy k calls v d);
        }

    pub misses_unsound : countable s depths ≡ false → answer ≡ told unsound 0 → MissesTold s depths c answer
    misses_unsound broken e =
        record { answered = e ∙ rw broken; misses_are = λ policy k calls v d. clash (value_countable v d) broken }

    pub misses_told_law : {r : Result ℕ Refusal} → countable s depths ≡ true → MissesRead s depths c r → answer ≡ told_of r
        → MissesTold s depths c answer
    misses_told_law passed read e =
        record {
          answered = e ∙ rw (passed, read.answered);
          misses_are =
              λ policy k calls v d.
              e ∙ rw (read.misses_are policy k calls v d);
        }
