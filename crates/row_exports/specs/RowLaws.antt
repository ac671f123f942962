-- What `row` answers to memory that was tested, told in numbers, meets the exported call's promise; and two answers that both
-- meet one are equal, and so is the memory they leave.
use Rattle.std.specs.Prelude.{ℕ, ◌≡◌, refl, Bool, true, false, List, Result, Ok, Err}
use Rattle.std.proofs.Common.{arith, sym, ◌∙◌}
use Rattle.std.proofs.Math.Path.{ap}
use Rattle.rules.specs.Cases.{by_cases, clash}
use Rattle.rules.specs.Lists.{one}
use Rattle.rules.specs.Refusals.{unsound}
use Rattle.rules.specs.declared.Frame.{Frame}
use Rattle.rules.specs.declared.refusal.Refusal.{Refusal}
use Rattle.rules.specs.Told.{Told, told, told_of}
use Rattle.row_theory.specs.States.{Call, refusal_of}
use Rattle.row_theory.specs.Row.{Row, any_frame, after, reply_of, reply_number, victim_of}
use Rattle.row_theory.specs.Runs.{row_after}
use Rattle.row_theory.specs.Promise.{Memory, row_in, Stands, Answered, OldestIdle}
use Rattle.row_theory.proofs.PromiseLaws.{number_of_reply}
use Rattle.row_theory.proofs.SoundRow.{sound_after}
use Rattle.row_theory.proofs.Theorems.{idle_victim_says}
use Rattle.row_theory.specs.RowTest.{row_sound, RowTested}
use Rattle.row_exports.specs.Told.{chosen_of}
use Rattle.row_exports.specs.RowTold.{memory_of, RowSays, RowTold, VictimTold, RowSoundTold}
use Rattle.row_exports.specs.Narrow.{Alike}

-- memory that a fresh row and calls left is such as its own row's
pub left_stands : {m : Memory} (history : List Call) → m ≡ memory_of (row_after history) → Stands m
left_stands {m} history left =
    rw left (record { reached = record { history = history; gives = refl }; index = refl })

pub stands_left : {m : Memory} → Stands m → m ≡ memory_of (row_in m)
stands_left {m} stands =
    let index = stands.index in
    λ i. record { slots = m.slots; places = index i; states = m.states; front = m.front; held = m.held }

-- the number of a reply told
pub told_number : (reply : Result ℕ Refusal) → (told_of reply).number ≡ reply_number reply
told_number (Ok n) = refl
told_number (Err r) = refl

-- what the definitions' answer and memory say of the calls before
pub row_says : (history : List Call) (call : Call) →
    RowSays history call (told_of (reply_of (row_after history) call)) (memory_of (after (row_after history) call))
unfolding row_after
row_says history call =
    record {
      answer = refl;
      number =
          told_number (reply_of (row_after history) call) ∙ number_of_reply (row_after history) call
          ∙ ap (λ (l : List ℕ). refusal_of l call) (sound_after history).same_states;
      next = refl;
    }

module _ {m : Memory} {ok : Bool} (tested : RowTested m ok) where
  -- R40: memory that fails the test
  pub row_unsound : {call : Call} → ok ≡ false → RowTold m call (told unsound 0) m
  row_unsound failed =
      let fails : row_sound m ≡ false = sym tested.answer ∙ failed in
      record {
        answer = rw fails;
        next = rw fails;
        says = λ history left. clash (tested.given (left_stands history left)) failed;
      }

  -- memory that passes it
  pub row_told : {call also : Call} {reply : Result ℕ Refusal} {t : Told} {m' : Memory} → ok ≡ true → Alike also call →
      Answered m also reply m' → t ≡ told_of reply → RowTold m call t m'
  row_told {call} {also} {reply} {t} {m'} passed alike met is =
      let passes : row_sound m ≡ true = sym tested.answer ∙ passed in
      let answer : t ≡ told_of (reply_of (row_in m) call) = is ∙ ap told_of (met.answer ∙ alike.reply (row_in m)) in
      let next : m' ≡ memory_of (after (row_in m) call) =
      stands_left met.stands ∙ ap memory_of (met.next ∙ alike.next (row_in m)) in
      record {
        answer = rw passes answer;
        next = rw passes next;
        says = λ history left.
            let same : row_in m ≡ row_after history = ap row_in left in
            rw (answer, next, same) (row_says history call);
      }

  -- W7: the same of a victim
  pub victim_unsound : ok ≡ false → VictimTold m (told unsound 0)
  victim_unsound failed =
      let fails : row_sound m ≡ false = sym tested.answer ∙ failed in
      record { answer = rw fails; says = λ history left. clash (tested.given (left_stands history left)) failed }

  pub victim_told : {victim : Result Frame Refusal} {t : Told} → ok ≡ true → OldestIdle (row_in m) any_frame victim →
      t ≡ chosen_of victim → VictimTold m t
  victim_told {victim} {t} passed met is =
      let passes : row_sound m ≡ true = sym tested.answer ∙ passed in
      let answer : t ≡ chosen_of (victim_of (row_in m)) = is ∙ ap chosen_of met.answer in
      record {
        answer = rw passes answer;
        says = λ history left.
            let same : row_in m ≡ row_after history = ap row_in left in
            record { answer = answer ∙ ap (λ (r : Row). chosen_of (victim_of r)) same; is = idle_victim_says history };
      }

  -- X5: the test told
  pub row_sound_told : {r : ℕ} → r ≡ one ok → RowSoundTold m r
  unfolding one
  row_sound_told {r} is =
      record {
        answer = is ∙ ap one tested.answer;
        gives = λ e. tested.gives (by_cases ok (λ t. t) (λ f. absurd (omega (arith, rw f at is))));
        given = λ history left. is ∙ ap one (tested.given (left_stands history left));
      }

pub row_told_once : {m m₁ m₂ : Memory} {call : Call} {a b : Told} → RowTold m call a m₁ → RowTold m call b m₂ →
    (a ≡ b) × (m₁ ≡ m₂)
row_told_once p q = (p.answer ∙ sym q.answer, p.next ∙ sym q.next)

pub victim_told_once : {m : Memory} {a b : Told} → VictimTold m a → VictimTold m b → a ≡ b
victim_told_once p q = p.answer ∙ sym q.answer
