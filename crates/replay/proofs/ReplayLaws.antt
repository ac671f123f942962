-- A replay, step by step: a reference, the hit table, the promise answer by answer.
use Rattle.std.specs.Prelude.{ℕ, ◌+◌, ◌≤◌, ◌<◌, Bool, true, false, ◌≡◌, refl, List, [], ◌∷◌}
use Rattle.std.specs.Prelude.{leb, ltb, length, drop, get_or, Result, Ok, Err, is_err, reverse}
use Rattle.std.proofs.Common.{arith, add-one, sym, ◌∙◌, subst, le-leb, le-ltb, lt-ltb, leb-true, leb-false}
use Rattle.std.proofs.Common.{drop-cons, drop_of_length-le}
use Rattle.std.proofs.Math.ListN.{length-reverse}
use Rattle.std.proofs.Math.Seq.{take-length}
use Rattle.std.proofs.lemmas.Bool.{lt-leb}
use Rattle.rules.specs.Limits.{capacities, references, pages, policies, opt, is_capacity}
use Rattle.rules.specs.Refusals.{Answer, accepted, giving, refuse_if, first_bad_page}
use Rattle.rules.specs.Cases.{by_cases, clash}
use Rattle.rules.specs.AnswerLaws.{not_accepted}
use Rattle.rules.specs.declared.refusal.Refusal.{Refusal}
use Rattle.rules.specs.declared.refusal.Refusal.TheVariants.{TooManyReferences, ShortTable, BadPage}
use Rattle.theory.specs.Policy.{policy_of}
use Rattle.kept.specs.Below.{Below}
use Rattle.kept.specs.Tally.{tally}
use Rattle.kept.specs.Filled.{filled}
use Rattle.kept.specs.Memory.{depths_after}
use Rattle.count.specs.Count.{count_answer, count_table}
use Rattle.count.specs.Runs.{before}
use Rattle.count.specs.RunLaws.{before_next, before_length}
use Rattle.count.specs.Table.{filled_hits}
use Rattle.session.specs.declared.Session.{Session}
use Rattle.session.specs.History.{start_answer, accepted_of, depth_of}
use Rattle.session.specs.Lent.{Lent, lent_of}
use Rattle.session.specs.Memory.{Given}
use Rattle.session.specs.Answers.{Starting, Referring, fresh}
use Rattle.session.specs.StartLaws.{start_gives}
use Rattle.session.specs.Driving.{begun, not_begun}
use Rattle.session.specs.ReferLaws.{Bounds, start_bounds, accepted_all}
use Rattle.replay.specs.Replayed.{Replayed, replay_answer, replay_table}
use Rattle.replay.specs.Steps.{Referable, Followed}

-- i references were accepted, and the first bad page is still to come
pub record Along (policy k : ℕ) (trace : List ℕ) (i : ℕ) (now : Lent) : Type 0 where
  pub inside : i ≤ length trace
  pub pages_only : Below pages (before trace i)
  pub gives : Given policy k (before trace i) now
  pub ahead : first_bad_page i (drop i trace) accepted ≡ first_bad_page 0 trace accepted

pub along_start : {trace : List ℕ} {m : Lent} → Referable trace m → Along m.value.policy m.value.k trace 0 m
along_start asked = record { inside = omega arith; pages_only = tt; gives = asked.fresh; ahead = refl }

-- a refusal leaves nothing to say of the session
followed_so_far : {trace : List ℕ} {m now : Lent} {x : Refusal} → first_bad_page 0 trace accepted ≡ Err x
    → Followed trace m now (Err x)
followed_so_far e = record { answer = sym e; good = λ n. not_accepted n; given = λ n. not_accepted n }

module _ {policy k : ℕ} {trace : List ℕ} {now then : Lent} {i : ℕ} {r : Result ℕ Refusal}
    (few : length trace ≤ references) (a : Along policy k trace i now) (more : i < length trace)
    (done : Referring now (get_or trace i 0) then r) where
  so_far : accepted_of (before trace i) ≡ before trace i
  so_far = accepted_all (before trace i) a.pages_only (omega (arith, before_length trace i a.inside))

  -- there is room, so whether the reference is accepted is whether it is a page
  answers : (isBad : Bool) → leb pages (get_or trace i 0) ≡ isBad
      → r ≡ giving (refuse_if isBad (BadPage 0) accepted) (depth_of policy k (before trace i) (get_or trace i 0))
  answers isBad e =
      done.answer policy k (before trace i) a.gives
      ∙ rw (so_far, lt-leb references (length (before trace i)) (omega (arith, before_length trace i a.inside)), e)

  pub along_next : is_err r ≡ false → Along policy k trace (i + 1) then
  unfolding first_bad_page
  along_next taken =
      let page-fine : get_or trace i 0 < pages =
      by_cases (leb pages (get_or trace i 0)) (λ e. clash (rw (answers true e) refl) taken)
      (λ e. leb-false pages (get_or trace i 0) e) in
      let longer : before trace (i + 1) ≡ get_or trace i 0 ∷ before trace i = rw (add-one i) (before_next trace i more) in
      let here : first_bad_page i (drop i trace) accepted ≡ first_bad_page (i + 1) (drop (i + 1) trace) accepted =
      rw (drop-cons trace i 0 more, lt-leb pages (get_or trace i 0) page-fine, add-one i) in
      record {
        inside = omega arith;
        pages_only = rw longer (page-fine, a.pages_only);
        gives = rw longer (done.next policy k (before trace i) a.gives);
        ahead = sym here ∙ a.ahead;
      }

  pub along_stop : {m : Lent} → is_err r ≡ true → Followed trace m then (Err (BadPage i))
  unfolding first_bad_page
  along_stop refused =
      let bad : pages ≤ get_or trace i 0 =
      by_cases (leb pages (get_or trace i 0)) (λ e. leb-true pages (get_or trace i 0) e)
      (λ e. clash refused (rw (answers false e) refl)) in
      let here : first_bad_page i (drop i trace) accepted ≡ Err (BadPage i) =
      rw (drop-cons trace i 0 more, le-leb pages (get_or trace i 0) bad) in
      followed_so_far (sym a.ahead ∙ here)

pub along_end : {trace : List ℕ} {m now : Lent} {i : ℕ} → Along m.value.policy m.value.k trace i now → length trace ≤ i
    → Followed trace m now accepted
unfolding first_bad_page
along_end {trace} {m} {now} {i} a end =
    let all : i ≡ length trace = omega (arith, a.inside) in
    let none : first_bad_page i (drop i trace) accepted ≡ accepted = rw (drop_of_length-le trace end) in
    record {
      answer = sym none ∙ a.ahead;
      good = λ e. rw (all, take-length trace) at a.pages_only;
      given = λ e. rw (all, take-length trace) at a.gives;
    }

module _ (policy k : ℕ) (trace table : List ℕ) where
  -- a refusal leaves the table
  leaves_table : {x : Refusal} → replay_answer policy k (length table) trace ≡ Err x
      → Replayed trace policy k table table (Err x)
  unfolding replay_table
  leaves_table e = record { answer = sym e; table = rw e }

  -- 5 and 1 of a start that was refused are those of the replay
  refused_start : {x : Refusal} → start_answer policy k ≡ Err x → Replayed trace policy k table table (Err x)
  unfolding replay_answer count_answer
  refused_start e =
      leaves_table
      (by_cases (leb opt policy) (λ a. rw a (rw a at e))
      (λ a. by_cases (is_capacity k) (λ b. not_accepted (sym (rw (a, b) at e)))
      (λ b. rw (a, lt-leb policies policy (omega (arith, leb-false opt policy a)), b) (rw (a, b) at e))))

  module _ (started : start_answer policy k ≡ accepted) where
    bounds : Bounds policy k
    bounds = start_bounds policy k started

    -- what is left to be refused: 2, 4, 3
    left : replay_answer policy k (length table) trace
        ≡ refuse_if (ltb references (length trace)) TooManyReferences
        (refuse_if (ltb (length table) k) ShortTable (first_bad_page 0 trace accepted))
    unfolding replay_answer count_answer
    left =
        let small : policy < policies = omega (arith, bounds.session) in
        rw (
          lt-leb opt policy bounds.session,
          lt-leb policies policy small,
          le-leb 1 k bounds.low,
          le-leb k capacities bounds.high,
        )

    pub replay_many : references < length trace → Replayed trace policy k table table (Err TooManyReferences)
    replay_many many = leaves_table (left ∙ rw (lt-ltb references (length trace) many))

    module _ (few : length trace ≤ references) where
      pub replay_short : length table < k → Replayed trace policy k table table (Err ShortTable)
      replay_short short = leaves_table (left ∙ rw (le-ltb references (length trace) few, lt-ltb (length table) k short))

      module _ (room : k ≤ length table) {m now : Lent} (begins : m.value ≡ fresh policy k) {r : Answer}
          (followed : Followed trace m now r) where
        is_followed : replay_answer policy k (length table) trace ≡ r
        is_followed =
            left ∙ rw (le-ltb references (length trace) few, le-ltb (length table) k room) (sym followed.answer)

        pub replay_bad : {x : Refusal} → r ≡ Err x → Replayed trace policy k table table (Err x)
        replay_bad e = leaves_table (is_followed ∙ e)

        -- the trace is the history, so the depths are those of its run
        pub replay_done : {after : List ℕ} → r ≡ accepted → after ≡ filled now.depths k table
            → Replayed trace policy k table after accepted
        unfolding replay_answer replay_table count_table depths_after
        replay_done e filled-up =
            let whole : Given policy k (reverse trace) now =
            subst (λ (s : Session). Given s.policy s.k (reverse trace) now) begins (followed.given e) in
            let all : accepted_of (reverse trace) ≡ reverse trace =
            accepted_all (reverse trace) (followed.good e) (omega (arith, length-reverse trace)) in
            let depths_are : now.depths ≡ tally (policy_of policy) k (reverse trace) [] =
            rw all at whole.tallied.depths_are in
            let yes : replay_answer policy k (length table) trace ≡ accepted = is_followed ∙ e in
            let counted : count_answer policy k (length table) trace ≡ accepted = rw (lt-leb opt policy bounds.session) at yes in
            record {
              answer = sym yes;
              table =
                  rw (lt-leb opt policy bounds.session, counted)
                  (filled-up ∙ rw depths_are (filled_hits policy k bounds.low bounds.high trace table few room));
            }

-- a session that was only started
pub replay_fresh : {policy k : ℕ} {places depths counts places' depths' counts' : List ℕ} {s : Session}
    → Starting policy k places depths counts places' depths' counts' (Ok s)
    → Given s.policy s.k [] (lent_of s places' depths' counts')
replay_fresh p = let b = begun p refl in rw b.1 (start_gives p b.0)

-- and one that was refused
pub replay_refused : {policy k : ℕ} {places depths counts places' depths' counts' : List ℕ} {answer : Result Session Refusal}
    → Starting policy k places depths counts places' depths' counts' answer → (trace table : List ℕ) {x : Refusal}
    → answer ≡ Err x → Replayed trace policy k table table (Err x)
replay_refused {policy} {k} p trace table e = refused_start policy k trace table (not_begun p e)
