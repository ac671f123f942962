-- A call under banks frame by frame: whether its gate shuts it out, the search of a bank's frames for a busy one, and the
-- storing of a bank's state at their gates.
use Rattle.std.specs.Prelude.{ℕ, zero, suc, ◌+◌, ◌<◌, ◌≤◌, ◌≡◌, refl, true, false, List, ltb, eqb, length, get_or, set}
use Rattle.std.proofs.Common.{add-one, arith, ◌∙◌, length-set, get_or-set_same, get_or-set_other, eq-eqb}
use Rattle.std.proofs.Common.{ne_eqb, eqb-true, le-ltb, lt-ltb}
use Rattle.std.proofs.Math.Bool.{and-false, and-true}
use Rattle.std.proofs.lemmas.Bool.{eqb-false}
use Rattle.rules.specs.Limits.{frames, bank_frames}
use Rattle.rules.specs.Cases.{by_cases}
use Rattle.row_theory.specs.States.{busy}
use Rattle.row_theory.specs.Row.{has_mark}
use Rattle.row_theory.specs.Promise.{asked}
use Rattle.row_theory.specs.declared.Event.{Event}
use Rattle.bank_theory.specs.Banks.{off, opened, needs_open, busy_from, shut_out}
use Rattle.bank_theory.proofs.Dropping.{within_none, within_more}
use Rattle.bank_theory.specs.BankLending.{CalmTo, within, Stored, StoredTo}

-- R33: a number that is no frame's, a frame whose gate is open, and one whose gate is not
pub shut_past : (gates : List ℕ) (event : Event) (frame : ℕ) → frames ≤ frame →
    shut_out (has_mark gates) (asked event frame) ≡ false
unfolding shut_out
shut_past gates event frame past = rw (le-ltb frame frames past)

pub shut_opened : (gates : List ℕ) (event : Event) (frame : ℕ) → get_or gates frame off ≡ opened →
    shut_out (has_mark gates) (asked event frame) ≡ false
unfolding shut_out has_mark
shut_opened gates event frame isOpen =
    rw (isOpen, and-false (needs_open event)) (and-false (ltb frame frames))

pub shut_decided : (gates : List ℕ) (event : Event) (frame : ℕ) → frame < frames → (get_or gates frame off ≡ opened → ⊥) →
    shut_out (has_mark gates) (asked event frame) ≡ needs_open event
unfolding shut_out has_mark
shut_decided gates event frame small other =
    rw (lt-ltb frame frames small, ne_eqb (get_or gates frame off) opened other) (and-true (needs_open event))

-- one of the three says whether a call is shut out
pub ruleset shut_laws = (shut_past, shut_opened, shut_decided)

-- R31: looking for a busy frame
pub calm_start : {states : List ℕ} {first : ℕ} → CalmTo states first first
calm_start = record { more = bank_frames; ends = refl; same = refl }

-- one frame on: there is one more, and it is not busy
calm_more : (states : List ℕ) (first at more : ℕ) → at + more ≡ first + bank_frames → at < first + bank_frames →
    busy_from states first bank_frames ≡ busy_from states at more → (get_or states at 0 ≡ busy → ⊥) → CalmTo states first (at + 1)
unfolding busy_from
calm_more states first at zero ends below same other = absurd (omega arith)
calm_more states first at (suc more) ends below same other =
    record {
      more = more;
      ends = omega arith;
      same = same ∙ rw (ne_eqb (get_or states at 0) busy other, add-one at);
    }

pub calm_next : {states : List ℕ} {first at : ℕ} → CalmTo states first at → at < first + bank_frames →
    (get_or states at 0 ≡ busy → ⊥) → CalmTo states first (at + 1)
calm_next {states} {first} {at} calm below other = calm_more states first at calm.more calm.ends below calm.same other

busy_more : (states : List ℕ) (first at more : ℕ) → at + more ≡ first + bank_frames → at < first + bank_frames →
    get_or states at 0 ≡ busy → busy_from states at more ≡ true
unfolding busy_from
busy_more states first at zero ends below is_busy = absurd (omega arith)
busy_more states first at (suc more) ends below is_busy = rw (eq-eqb (get_or states at 0) busy is_busy)

pub busy_found : {states : List ℕ} {first at : ℕ} → CalmTo states first at → at < first + bank_frames →
    get_or states at 0 ≡ busy → busy_from states first bank_frames ≡ true
busy_found {states} {first} {at} calm below is_busy =
    calm.same ∙ busy_more states first at calm.more calm.ends below is_busy

none_more : (states : List ℕ) (at more : ℕ) → more ≡ 0 → busy_from states at more ≡ false
unfolding busy_from
none_more states at zero e = refl
none_more states at (suc more) e = absurd (omega arith)

pub calm_end : {states : List ℕ} {first at : ℕ} → CalmTo states first at → first + bank_frames ≤ at →
    busy_from states first bank_frames ≡ false
calm_end {states} {first} {at} calm past = calm.same ∙ none_more states at calm.more (omega (arith, calm.ends))

-- storing a state at a bank's gates one by one
pub store_start : {gates : List ℕ} {first state : ℕ} → StoredTo gates first first state gates
store_start {gates} {first} {state} =
    record {
      many = 0;
      is = omega arith;
      room = omega arith;
      stored = record { long = refl; at = λ frame. rw (within_none first frame) };
    }

pub store_next : {gates gates₁ : List ℕ} {first at state : ℕ} → StoredTo gates first at state gates₁ → at < first + bank_frames →
    first + bank_frames ≤ length gates → StoredTo gates first (at + 1) state (set gates₁ at state)
store_next {gates} {gates₁} {first} {at} {state} to below room =
    let stored = to.stored in
    record {
      many = suc to.many;
      is = omega (arith, to.is);
      room = omega arith;
      stored = record {
        long = length-set gates₁ at state ∙ stored.long;
        at = λ frame. rw (within_more first to.many frame, ← to.is)
            (by_cases (eqb frame at)
            (λ e. rw (e, eqb-true frame at e, get_or-set_same gates₁ at state off (omega (arith, stored.long)))
            (by_cases (within first to.many at) (λ w. rw w) (λ w. rw w)))
            (λ e. rw (e, get_or-set_other gates₁ at frame state off (eqb-false frame at e), stored.at frame)
            (by_cases (within first to.many frame) (λ w. rw w) (λ w. rw w))));
      };
    }

pub store_end : {gates gates₁ : List ℕ} {first at state : ℕ} → StoredTo gates first at state gates₁ → first + bank_frames ≤ at →
    Stored gates first bank_frames state gates₁
store_end {gates} {gates₁} {first} {at} {state} to past =
    let all : to.many ≡ bank_frames = omega (arith, to.is, to.room) in
    rw (← all) to.stored
