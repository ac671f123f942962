-- The promises of the row under banks follow from their equations.
use Rattle.std.specs.Prelude.{ℕ, ◌≡◌, refl, List, ◌∷◌, Result, Ok, Err, IfErr}
use Rattle.std.specs.Result.{result_and}
use Rattle.std.proofs.Common.{sym, ◌∙◌, ap}
use Rattle.rules.specs.Refusals.{number_of, refusal_place}
use Rattle.rules.specs.declared.Frame.{Frame}
use Rattle.rules.specs.declared.refusal.Refusal.{Refusal}
use Rattle.rules.specs.Cases.{by_cases}
use Rattle.row_theory.specs.Slots.{places_in}
use Rattle.row_theory.specs.Row.{reply_number, reply_place}
use Rattle.row_theory.specs.Runs.{Reached}
use Rattle.row_theory.specs.Promise.{Stands}
use Rattle.row_theory.proofs.PromiseLaws.{number_of_reply, place_of_reply, same_memory}
use Rattle.bank_theory.specs.Banks.{Step, of_frame, of_bank, gating_verdict, gating_refusal, shut}
use Rattle.bank_theory.specs.Banks.{refusal_under}
use Rattle.bank_theory.specs.BankHistory.{Seen, seen_after}
use Rattle.bank_theory.specs.Gated.{Gated, gated_then, reply_under, victim_under}
use Rattle.bank_theory.specs.BankRuns.{gated_after, ReachedUnder, row_calls}
use Rattle.bank_theory.specs.BankPromise.{BankMemory, gates_of, banks_in, gated_in, StandsUnder}
use Rattle.bank_theory.specs.BankPromise.{ReplySaysUnder, AnsweredUnder, OldestOpen}
use Rattle.bank_theory.proofs.UnderBanks.{seen_in, same_seen, under_banks}
use Rattle.bank_theory.proofs.BankLaws.{gating_placeless}
use Rattle.bank_theory.proofs.BankTheorems.{victim_under_says}

-- O7, O8, A1: the number and the place of what a call answers
number_then : (v : Result ℕ Refusal) → reply_number (result_and v (Ok 0)) ≡ number_of v
number_then (Ok state) = refl
number_then (Err r) = refl

place_then : (v : Result ℕ Refusal) → IfErr v (λ r. refusal_place r ≡ 0) → reply_place (result_and v (Ok 0)) ≡ 0
place_then (Ok state) none = refl
place_then (Err r) none = none

pub number_under : (gated : Gated) (step : Step) →
    reply_number (reply_under gated step) ≡ refusal_under gated.row.states gated.banks step
unfolding reply_under refusal_under gating_refusal
number_under gated (of_frame call) =
    by_cases (shut gated.banks call) (λ e. rw e) (λ e. rw e (number_of_reply gated.row call))
number_under gated (of_bank gating bank) = number_then (gating_verdict gated.row.states gated.banks gating bank)

pub place_under : (gated : Gated) (step : Step) → reply_place (reply_under gated step) ≡ 0
unfolding reply_under
place_under gated (of_frame call) =
    by_cases (shut gated.banks call) (λ e. rw e) (λ e. rw e (place_of_reply gated.row call))
place_under gated (of_bank gating bank) =
    let states = gated.row.states in
    place_then (gating_verdict states gated.banks gating bank) (gating_placeless states gated.banks gating bank)

-- what it says of any history that gives the state
reply_says_under : (history : List Step) (gated : Gated) (step : Step) → gated_after history ≡ gated →
    ReplySaysUnder history step (reply_under gated step) (gated_then gated step)
unfolding gated_after
reply_says_under history gated step gives =
    let same : seen_in gated ≡ seen_after history = sym (ap seen_in gives) ∙ same_seen history in
    record {
      number = number_under gated step ∙ ap (λ (s : Seen). refusal_under s.states s.banks step) same;
      place = place_under gated step;
      next = ap (λ (g : Gated). gated_then g step) (sym gives);
    }

-- a call that answers and leaves what the definitions say keeps its promise
pub answered_under : {m : BankMemory} {step : Step} {reply : Result ℕ Refusal} {m' : BankMemory} → StandsUnder m →
    reply ≡ reply_under (gated_in m) step → gated_in m' ≡ gated_then (gated_in m) step →
    m'.row.places ≡ places_in m'.row.slots → m'.gates ≡ gates_of (banks_in m'.gates) → AnsweredUnder m step reply m'
unfolding gated_after
answered_under {m} {step} {reply} {m'} stands answer next index spread =
    let reached = stands.gated.reached in
    let longer : gated_after (step ∷ reached.history) ≡ gated_in m' =
    ap (λ (g : Gated). gated_then g step) reached.gives ∙ sym next in
    record {
      answer = answer;
      next = next;
      stands = record {
        gated = record { reached = record { history = step ∷ reached.history; gives = longer }; spread = spread };
        index = index;
      };
      says = λ history gives. rw (answer, next) (reply_says_under history (gated_in m) step gives);
    }

pub oldest_open : {gated : Gated} {victim : Result Frame Refusal} → victim ≡ victim_under gated → OldestOpen gated victim
oldest_open {gated} {victim} answer =
    record { answer = answer; says = λ history gives. rw (answer, ← gives) (victim_under_says history) }

-- the row under banks is a row that calls of its own give
pub row_reached : {gated : Gated} → ReachedUnder gated → Reached gated.row
row_reached reached =
    record {
      history = row_calls reached.history;
      gives = sym (under_banks reached.history) ∙ ap (λ (g : Gated). g.row) reached.gives;
    }

pub row_stands : {m : BankMemory} → StandsUnder m → Stands m.row
row_stands stands = record { reached = row_reached stands.gated.reached; index = stands.index }

-- the state, the index of the slots and the gates of the banks are all of the memory
pub same_bank_memory : {m₁ m₂ : BankMemory} → gated_in m₁ ≡ gated_in m₂ → StandsUnder m₁ → StandsUnder m₂ → m₁ ≡ m₂
same_bank_memory {m₁} {m₂} same one two =
    let row = same_memory (ap (λ (g : Gated). g.row) same) (row_stands one) (row_stands two) in
    let gates : m₁.gates ≡ m₂.gates =
    one.gated.spread ∙ ap (λ (g : Gated). gates_of g.banks) same ∙ sym two.gated.spread in
    λ i. record { row = row i; gates = gates i }
