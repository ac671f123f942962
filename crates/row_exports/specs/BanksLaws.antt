-- What `banks` answers to memory that was tested, told in numbers, meets the exported call's promise; and two answers that both
-- meet one are equal, and so is the memory they leave.
use Rattle.std.specs.Prelude.{ℕ, ◌≡◌, refl, Bool, true, false, List, length, Result}
use Rattle.std.proofs.Common.{arith, sym, ◌∙◌}
use Rattle.std.proofs.Math.Path.{ap}
use Rattle.rules.specs.Cases.{by_cases, clash}
use Rattle.rules.specs.Lists.{one}
use Rattle.rules.specs.Refusals.{unsound}
use Rattle.rules.specs.declared.Frame.{Frame}
use Rattle.rules.specs.declared.refusal.Refusal.{Refusal}
use Rattle.rules.specs.Told.{Told, told, told_of}
use Rattle.bank_theory.specs.Banks.{Step, refusal_under}
use Rattle.bank_theory.specs.BankHistory.{Seen}
use Rattle.bank_theory.specs.Gated.{Gated, gated_then, reply_under, victim_under}
use Rattle.bank_theory.specs.BankRuns.{gated_after}
use Rattle.bank_theory.specs.BankPromise.{BankMemory, bank_memory, gates_of, gated_in, StandsUnder, AnsweredUnder, OldestOpen}
use Rattle.bank_theory.proofs.BankPromiseLaws.{number_under, row_stands}
use Rattle.bank_theory.proofs.UnderBanks.{same_seen}
use Rattle.bank_theory.proofs.Powered.{powered_after}
use Rattle.bank_theory.proofs.GateLaws.{banks_of_gates}
use Rattle.bank_theory.proofs.BankTheorems.{victim_under_says}
use Rattle.bank_theory.specs.BankTest.{banks_sound, BanksTested}
use Rattle.row_exports.specs.Told.{chosen_of}
use Rattle.row_exports.specs.RowLaws.{stands_left, told_number}
use Rattle.row_exports.specs.BanksTold.{memory_under, BanksSays, BanksTold, OpenVictimTold}
use Rattle.row_exports.specs.BanksTold.{BanksSoundTold}
use Rattle.row_exports.specs.Narrow.{AlikeUnder}

-- the gates of banks that calls gave are those banks' again
gated_again : (history : List Step) → gated_in (memory_under (gated_after history)) ≡ gated_after history
gated_again history =
    let long = ap (λ (s : Seen). s.banks) (same_seen history) in
    let banks = banks_of_gates (gated_after history).banks (ap length long ∙ (powered_after history).long) in
    λ i. record { row = (gated_after history).row; banks = banks i }

pub left_gated : {m : BankMemory} (history : List Step) → m ≡ memory_under (gated_after history) →
    gated_in m ≡ gated_after history
left_gated history left = ap gated_in left ∙ gated_again history

-- memory that fresh banks and calls left is such as its own state's
pub left_stands_under : {m : BankMemory} (history : List Step) → m ≡ memory_under (gated_after history) → StandsUnder m
left_stands_under {m} history left =
    let same = left_gated history left in
    let spread : m.gates ≡ gates_of (gated_in m).banks =
    ap (λ (b : BankMemory). b.gates) left ∙ ap (λ (g : Gated). gates_of g.banks) (sym same) in
    record {
      gated = record { reached = record { history = history; gives = sym same }; spread = spread };
      index = rw left refl;
    }

pub stands_left_under : {m : BankMemory} → StandsUnder m → m ≡ memory_under (gated_in m)
stands_left_under {m} stands =
    let row = stands_left (row_stands stands) in
    let gates = stands.gated.spread in
    λ i. bank_memory (row i) (gates i)

-- what the definitions' answer and memory say of the calls before
pub banks_says : (history : List Step) (step : Step) →
    BanksSays history step (told_of (reply_under (gated_after history) step))
    (memory_under (gated_then (gated_after history) step))
unfolding gated_after
banks_says history step =
    record {
      answer = refl;
      number =
          told_number (reply_under (gated_after history) step) ∙ number_under (gated_after history) step
          ∙ ap (λ (s : Seen). refusal_under s.states s.banks step) (same_seen history);
      next = refl;
    }

module _ {m : BankMemory} {ok : Bool} (tested : BanksTested m ok) where
  -- R40: memory that fails the test
  pub banks_unsound : {step : Step} → ok ≡ false → BanksTold m step (told unsound 0) m
  banks_unsound failed =
      let fails : banks_sound m ≡ false = sym tested.answer ∙ failed in
      record {
        answer = rw fails;
        next = rw fails;
        says = λ history left. clash (tested.given (left_stands_under history left)) failed;
      }

  -- memory that passes it
  pub banks_told : {step also : Step} {reply : Result ℕ Refusal} {t : Told} {m' : BankMemory} → ok ≡ true → AlikeUnder also step →
      AnsweredUnder m also reply m' → t ≡ told_of reply → BanksTold m step t m'
  banks_told {step} {also} {reply} {t} {m'} passed alike met is =
      let passes : banks_sound m ≡ true = sym tested.answer ∙ passed in
      let answer : t ≡ told_of (reply_under (gated_in m) step) = is ∙ ap told_of (met.answer ∙ alike.reply (gated_in m)) in
      let next : m' ≡ memory_under (gated_then (gated_in m) step) =
      stands_left_under met.stands ∙ ap memory_under (met.next ∙ alike.next (gated_in m)) in
      record {
        answer = rw passes answer;
        next = rw passes next;
        says = λ history left. rw (answer, next, left_gated history left) (banks_says history step);
      }

  -- B4: the same of a victim
  pub open_victim_unsound : ok ≡ false → OpenVictimTold m (told unsound 0)
  open_victim_unsound failed =
      let fails : banks_sound m ≡ false = sym tested.answer ∙ failed in
      record { answer = rw fails; says = λ history left. clash (tested.given (left_stands_under history left)) failed }

  pub open_victim_told : {victim : Result Frame Refusal} {t : Told} → ok ≡ true → OldestOpen (gated_in m) victim →
      t ≡ chosen_of victim → OpenVictimTold m t
  open_victim_told {victim} {t} passed met is =
      let passes : banks_sound m ≡ true = sym tested.answer ∙ passed in
      let answer : t ≡ chosen_of (victim_under (gated_in m)) = is ∙ ap chosen_of met.answer in
      record {
        answer = rw passes answer;
        says = λ history left.
            record {
              answer = answer ∙ ap (λ (g : Gated). chosen_of (victim_under g)) (left_gated history left);
              is = victim_under_says history;
            };
      }

  -- X6: the test told
  pub banks_sound_told : {r : ℕ} → r ≡ one ok → BanksSoundTold m r
  unfolding one
  banks_sound_told {r} is =
      record {
        answer = is ∙ ap one tested.answer;
        gives = λ e. tested.gives (by_cases ok (λ t. t) (λ f. absurd (omega (arith, rw f at is))));
        given = λ history left. is ∙ ap one (tested.given (left_stands_under history left));
      }

pub banks_told_once : {m m₁ m₂ : BankMemory} {step : Step} {a b : Told} → BanksTold m step a m₁ → BanksTold m step b m₂ →
    (a ≡ b) × (m₁ ≡ m₂)
banks_told_once p q = (p.answer ∙ sym q.answer, p.next ∙ sym q.next)

pub open_victim_told_once : {m : BankMemory} {a b : Told} → OpenVictimTold m a → OpenVictimTold m b → a ≡ b
open_victim_told_once p q = p.answer ∙ sym q.answer
