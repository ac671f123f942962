-- What holds of any answer that meets a promise (docs/RULES.md, D1, A1, A3): a refusal changes nothing, and two answers to
-- one call are equal.
use Rattle.std.specs.Prelude.{ℕ, ◌<◌, ◌≡◌, Bool, false, List, ltb, Result}
use Rattle.std.proofs.Common.{arith, sym, ◌∙◌}
use Rattle.std.proofs.Math.Path.{ap}
use Rattle.std.proofs.Math.Dec.{eqb}
use Rattle.std.proofs.Math.ListN.{get_or-eq_default}
use borrow.Author.Tests.{ltb-false, ne_eqb}
use Rattle.rules.specs.Limits.{frames}
use Rattle.rules.specs.declared.Frame.{Frame}
use Rattle.rules.specs.declared.refusal.Refusal.{Refusal}
use Rattle.rules.specs.Cases.{by_cases}
use Rattle.row_theory.specs.States.{Call, absent, state_of, verdict_of, refusal_of, accepts}
use Rattle.row_theory.specs.StateLaws.{number_ok}
use Rattle.row_theory.specs.Row.{Row, reply_number, reply_place}
use Rattle.row_theory.specs.History.{states_after}
use Rattle.row_theory.specs.Runs.{row_after}
use Rattle.row_theory.specs.Promise.{Memory, row_in, Stands, Answered, FreshRow, OldestIdle, state_in}
use Rattle.row_theory.proofs.PromiseLaws.{number_of_reply, place_of_reply, same_memory}
use Rattle.row_theory.proofs.GoodStates.{good_after}
use Rattle.row_theory.proofs.SoundRow.{sound_after, after_refused}

module _ {m m' : Memory} {call : Call} {reply : Result ℕ Refusal} where
  -- O6: a reply's number is 0 exactly where the call is accepted
  pub number_accepts : Answered m call reply m' → eqb (reply_number reply) 0 ≡ accepts m.states call
  unfolding refusal_of accepts
  number_accepts met =
      ap (λ (n : ℕ). eqb n 0) (ap reply_number met.answer ∙ number_of_reply (row_in m) call) ∙
      number_ok (verdict_of m.states call)

  -- A1: its place is 0
  pub reply_place_law : Answered m call reply m' → reply_place reply ≡ 0
  reply_place_law met = ap reply_place met.answer ∙ place_of_reply (row_in m) call

  -- A3: a reply with a number leaves the whole memory as it was: slots, places, states, front and number held
  pub refused_leaves : Stands m → Answered m call reply m' → 0 < reply_number reply → m' ≡ m
  refused_leaves stands met some =
      let no : accepts m.states call ≡ false =
      sym (number_accepts met) ∙ ne_eqb (reply_number reply) 0 (λ zero. omega arith) in
      same_memory (met.next ∙ after_refused (row_in m) call no) met.stands stands

-- two answers to one call, two fresh rows, two victims
pub answered_once : {m m₁ m₂ : Memory} {call : Call} {reply₁ reply₂ : Result ℕ Refusal} → Answered m call reply₁ m₁ →
    Answered m call reply₂ m₂ → (reply₁ ≡ reply₂) × (m₁ ≡ m₂)
answered_once one two =
    (one.answer ∙ sym two.answer, same_memory (one.next ∙ sym two.next) one.stands two.stands)

pub fresh_row_once : {m₁ m₂ : Memory} → FreshRow m₁ → FreshRow m₂ → m₁ ≡ m₂
fresh_row_once one two = same_memory (one.whole ∙ sym two.whole) one.stands two.stands

pub oldest_idle_once : {row : Row} {may : ℕ → Bool} {victim₁ victim₂ : Result Frame Refusal} → OldestIdle row may victim₁ →
    OldestIdle row may victim₂ → victim₁ ≡ victim₂
oldest_idle_once one two = one.answer ∙ sym two.answer

-- the state of any one number is the one that the history says
pub state_says : (history : List Call) (m : Memory) → row_after history ≡ row_in m → (frame : ℕ) →
    state_in m.states frame ≡ state_of (states_after history) frame
state_says history m gives frame =
    let states = states_after history in
    let same : m.states ≡ states = sym (ap (λ (r : Row). r.states) gives) ∙ (sound_after history).same_states in
    ap (λ (l : List ℕ). state_in l frame) same ∙
    by_cases (ltb frame frames) (λ e. rw e)
    (λ e. let past = ltb-false frame frames e in
    rw e (sym (get_or-eq_default states absent {n = frame} (omega (arith, (good_after history).long)))))
