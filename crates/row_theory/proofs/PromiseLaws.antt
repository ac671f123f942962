-- The promises follow from their equations.
use Rattle.std.specs.Prelude.{ℕ, ◌≡◌, refl, Bool, List, [], ◌∷◌, Result, Ok, Err, IfErr}
use Rattle.std.specs.Result.{result_and}
use Rattle.std.proofs.Common.{sym, ◌∙◌, ap, subst, subst₂}
use Rattle.rules.specs.Refusals.{number_of, refusal_place}
use Rattle.rules.specs.declared.Frame.{Frame}
use Rattle.rules.specs.declared.refusal.Refusal.{Refusal}
use Rattle.row_theory.specs.States.{Call, verdict_of, refusal_of}
use Rattle.row_theory.specs.Slots.{places_in, examined_then}
use Rattle.row_theory.specs.StateLaws.{verdict_placeless}
use Rattle.row_theory.specs.Row.{Row, empty_row, after, reply_of, reply_number, reply_place, victim_among}
use Rattle.row_theory.specs.History.{states_after, moment_after}
use Rattle.row_theory.specs.Runs.{row_after, Reached}
use Rattle.row_theory.specs.Promise.{Memory, row_in, Stands, ReplySays, Answered, FreshRow, OldestIdle}
use Rattle.row_theory.proofs.GoodStates.{GoodStates, good_after}
use Rattle.row_theory.proofs.SoundRow.{Sound, sound_after}
use Rattle.row_theory.proofs.Theorems.{victim_says}

-- A1: the number and the place of what a call answers
number_then : (v : Result ℕ Refusal) (n : ℕ) → reply_number (result_and v (Ok n)) ≡ number_of v
number_then (Ok next) n = refl
number_then (Err r) n = refl

pub number_of_reply : (row : Row) (call : Call) → reply_number (reply_of row call) ≡ refusal_of row.states call
unfolding reply_of refusal_of
number_of_reply row call = number_then (verdict_of row.states call) (examined_then call.event row.front)

place_then : (v : Result ℕ Refusal) (n : ℕ) → IfErr v (λ r. refusal_place r ≡ 0) → reply_place (result_and v (Ok n)) ≡ 0
place_then (Ok next) n none = refl
place_then (Err r) n none = none

pub place_of_reply : (row : Row) (call : Call) → reply_place (reply_of row call) ≡ 0
unfolding reply_of
place_of_reply row call =
    place_then (verdict_of row.states call) (examined_then call.event row.front) (verdict_placeless row.states call)

-- what it says of any history that gives the row
reply_says : (history : List Call) (row : Row) (call : Call) → row_after history ≡ row →
    ReplySays history call (reply_of row call) (after row call)
unfolding row_after
reply_says history row call gives =
    let same : row.states ≡ states_after history = sym (ap (λ (r : Row). r.states) gives) ∙ (sound_after history).same_states in
    record {
      number = number_of_reply row call ∙ ap (λ (l : List ℕ). refusal_of l call) same;
      place = place_of_reply row call;
      next = ap (λ (r : Row). after r call) (sym gives);
    }

-- a call that answers and leaves what the definitions say keeps its promise
pub answered : {m : Memory} {call : Call} {reply : Result ℕ Refusal} {m' : Memory} → Reached (row_in m) →
    reply ≡ reply_of (row_in m) call → row_in m' ≡ after (row_in m) call → m'.places ≡ places_in m'.slots →
    Answered m call reply m'
unfolding row_after
answered {m} {call} {reply} {m'} reached answer next index =
    let longer : row_after (call ∷ reached.history) ≡ row_in m' = ap (λ (r : Row). after r call) reached.gives ∙ sym next in
    record {
      answer = answer;
      next = next;
      stands = record { reached = record { history = call ∷ reached.history; gives = longer }; index = index };
      says = λ history gives. rw (answer, next) (reply_says history (row_in m) call gives);
    }

-- the row and the index of its slots are all of the memory
pub same_memory : {m₁ m₂ : Memory} → row_in m₁ ≡ row_in m₂ → Stands m₁ → Stands m₂ → m₁ ≡ m₂
same_memory {m₁} {m₂} same one two =
    let places : m₁.places ≡ m₂.places = one.index ∙ ap (λ (r : Row). places_in r.slots) same ∙ sym two.index in
    λ i. record {
      slots = (same i).slots;
      places = places i;
      states = (same i).states;
      front = (same i).front;
      held = (same i).held;
    }

pub fresh_row_law : {m : Memory} → row_in m ≡ empty_row → m.places ≡ places_in m.slots → FreshRow m
unfolding row_after
fresh_row_law whole index =
    record { whole = whole; stands = record { reached = record { history = []; gives = sym whole }; index = index } }

pub oldest_idle : {row : Row} {may : ℕ → Bool} {victim : Result Frame Refusal} → victim ≡ victim_among may row →
    OldestIdle row may victim
oldest_idle {row} {may} {victim} answer =
    record { answer = answer; says = λ history gives. rw (answer, ← gives) (victim_says history may) }

-- a row that calls give, in the words of its own parts
pub record Ordered (row : Row) : Type 0 where
  pub good : GoodStates row.states
  pub moment : ℕ → ℕ
  pub sound : Sound row row.states moment

pub ordered : {row : Row} → Reached row → Ordered row
ordered {row} reached =
    let history = reached.history in
    let same : states_after history ≡ row.states =
    sym (sound_after history).same_states ∙ ap (λ (r : Row). r.states) reached.gives in
    record {
      good = subst GoodStates same (good_after history);
      moment = moment_after history;
      sound = subst₂ (λ (r : Row) (l : List ℕ). Sound r l (moment_after history)) reached.gives same (sound_after history);
    }
