-- For whoever drives a row or banks through the exported calls: 40 is given exactly where the memory fails the test, and a caller
-- who starts with a fresh one and lets only these calls write it never sees it.
use Rattle.std.specs.Prelude.{ℕ, zero, suc, ◌<◌, ◌≡◌, Bool, true, false, cond, not, ◌&&◌, List, [], ◌∷◌, leb, eqb}
use Rattle.std.specs.Prelude.{Result, Ok, Err}
use Rattle.std.specs.Result.{result_and}
use Rattle.std.proofs.Common.{arith, sym, ◌∙◌, ap}
use Rattle.rules.specs.Limits.{frames, held}
use Rattle.rules.specs.Limits
use Rattle.rules.specs.Cases.{by_cases, clash}
use Rattle.rules.specs.Refusals.{number_of, unsound}
use Rattle.rules.specs.declared.refusal.Refusal.{Refusal}
use Rattle.rules.specs.declared.refusal.Refusal.TheVariants.{BadFrame, RowFull, BadBank, WrongBankState, BankBusy}
use Rattle.rules.specs.Told.{Told}
use Rattle.row_theory.specs.States.{Call, state_of, table_at, cell_of, held_in, is_put, verdict_of, refusal_of}
use Rattle.row_theory.specs.Row.{reply_of}
use Rattle.row_theory.specs.Runs.{row_after}
use Rattle.row_theory.specs.Promise.{Memory, row_in, FreshRow}
use Rattle.row_theory.proofs.PromiseLaws.{number_of_reply}
use Rattle.row_theory.specs.RowTest.{row_sound}
use Rattle.row_theory.specs.TestParts.{Sized}
use Rattle.row_theory.proofs.TestLaws.{sound_stands, stands_sound}
use Rattle.row_theory.specs.declared.Event.{Event}
use Rattle.row_theory.specs.declared.Event.TheVariants.{Put, Touch, Start, End, Drop}
use Rattle.bank_theory.specs.declared.Gating.{Gating}
use Rattle.bank_theory.specs.declared.Gating.TheVariants.{Close, Cut, Open}
use Rattle.bank_theory.specs.Banks.{Step, of_frame, of_bank, off, opened, closing, gated_to, bank_state, is_cut, busy_in}
use Rattle.bank_theory.specs.Banks.{gating_verdict, gating_refusal, shut, refusal_under}
use Rattle.bank_theory.specs.Gated.{reply_under}
use Rattle.bank_theory.specs.BankRuns.{gated_after}
use Rattle.bank_theory.specs.BankPromise.{BankMemory, gated_in, FreshBanks}
use Rattle.bank_theory.proofs.BankPromiseLaws.{number_under}
use Rattle.bank_theory.specs.BankTest.{banks_sound}
use Rattle.bank_theory.proofs.BankTestLaws.{SizedUnder, sound_stands_under, stands_sound_under}
use Rattle.row_exports.specs.RowTold.{memory_of, RowTold}
use Rattle.row_exports.specs.BanksTold.{memory_under, BanksTold}
use Rattle.row_exports.specs.RowLaws.{left_stands, stands_left, told_number}
use Rattle.row_exports.specs.BanksLaws.{left_stands_under, stands_left_under}

-- no number that the row or the banks give is 40
any_state : (P : ℕ → Type 0) → P 0 → P 1 → P 2 → ((n : ℕ) → P (suc (suc (suc n)))) → (state : ℕ) → P state
any_state P a i b more zero = a
any_state P a i b more (suc zero) = i
any_state P a i b more (suc (suc zero)) = b
any_state P a i b more (suc (suc (suc n))) = more n

abbrev Small : Result ℕ Refusal → Type 0
Small r = number_of r < unsound

abbrev SmallAt : Event → ℕ → Type 0
SmallAt event state = Small (table_at state event)

table_small : (event : Event) (state : ℕ) → SmallAt event state
unfolding table_at
table_small Put = any_state (SmallAt Put) (omega arith) (omega arith) (omega arith) (λ n. omega arith)
table_small Touch = any_state (SmallAt Touch) (omega arith) (omega arith) (omega arith) (λ n. omega arith)
table_small Start = any_state (SmallAt Start) (omega arith) (omega arith) (omega arith) (λ n. omega arith)
table_small End = any_state (SmallAt End) (omega arith) (omega arith) (omega arith) (λ n. omega arith)
table_small Drop = any_state (SmallAt Drop) (omega arith) (omega arith) (omega arith) (λ n. omega arith)

chosen_small : (test : Bool) (a b : Result ℕ Refusal) → Small a → Small b → Small (cond test a b)
chosen_small true a b x y = x
chosen_small false a b x y = y

both_small : (a b : Result ℕ Refusal) → Small a → Small b → Small (result_and a b)
both_small (Ok n) b x y = y
both_small (Err r) b x y = x

refusal_small : (states : List ℕ) (call : Call) → refusal_of states call < unsound
unfolding refusal_of verdict_of
refusal_small states call =
    let cell = cell_of states call in
    let full = is_put call.event && leb held (held_in states) in
    let small : Small cell = table_small call.event (state_of states call.frame) in
    chosen_small (leb frames call.frame) (Err BadFrame) (result_and cell (cond full (Err RowFull) cell)) (omega arith)
    (both_small cell (cond full (Err RowFull) cell) small (chosen_small full (Err RowFull) cell (omega arith) small))

gated_small : (gating : Gating) (state : ℕ) → Small (gated_to gating state)
unfolding gated_to
gated_small Close state = chosen_small (eqb state opened) (Ok closing) (Err WrongBankState) (omega arith) (omega arith)
gated_small Cut state = chosen_small (eqb state closing) (Ok off) (Err WrongBankState) (omega arith) (omega arith)
gated_small Open state = chosen_small (not (eqb state opened)) (Ok opened) (Err WrongBankState) (omega arith) (omega arith)

gating_small : (states banks : List ℕ) (gating : Gating) (bank : ℕ) → gating_refusal states banks gating bank < unsound
unfolding gating_refusal gating_verdict
gating_small states banks gating bank =
    let next = gated_to gating (bank_state banks bank) in
    let busy = is_cut gating && busy_in states bank in
    let small : Small next = gated_small gating (bank_state banks bank) in
    chosen_small (leb Limits.banks bank) (Err BadBank) (result_and next (cond busy (Err BankBusy) next)) (omega arith)
    (both_small next (cond busy (Err BankBusy) next) small (chosen_small busy (Err BankBusy) next (omega arith) small))

under_small : (states banks : List ℕ) (step : Step) → refusal_under states banks step < unsound
unfolding refusal_under
under_small states banks (of_frame call) =
    by_cases (shut banks call) (λ e. rw e (omega arith)) (λ e. rw e (refusal_small states call))
under_small states banks (of_bank gating bank) = gating_small states banks gating bank

-- R40: exactly where the memory fails the test
module _ {m m' : Memory} {call : Call} {t : Told} (p : RowTold m call t m') where
  number_below : row_sound m ≡ true → t.number < unsound
  number_below passes =
      let told = told_number (reply_of (row_in m) call) ∙ number_of_reply (row_in m) call in
      let number : t.number ≡ refusal_of m.states call =
      ap (λ (x : Told). x.number) p.answer ∙ rw passes told in
      omega (arith, number, refusal_small m.states call)

  pub row_40 : t.number ≡ unsound → row_sound m ≡ false
  row_40 is = by_cases (row_sound m) (λ e. absurd (omega (arith, number_below e))) (λ e. e)

  pub row_40_only : row_sound m ≡ false → (t.number ≡ unsound) × (m' ≡ m)
  row_40_only fails = (ap (λ (x : Told). x.number) p.answer ∙ rw fails, p.next ∙ rw fails)

-- a fresh row's memory is that of no calls, and each call leaves that of one more (`RowSays`): so 40 is never given to a caller
-- who kept the rules
pub fresh_left : {m : Memory} → FreshRow m → m ≡ memory_of (row_after [])
unfolding row_after
fresh_left p = stands_left p.stands ∙ ap memory_of p.whole

pub row_never_40 : {m m' : Memory} {call : Call} {t : Told} (history : List Call) → m ≡ memory_of (row_after history) →
    RowTold m call t m' → t.number ≡ unsound → ⊥
row_never_40 history left p is = clash (stands_sound (left_stands history left)) (row_40 p is)

-- and what passed the test once passes it after every call, wherever it came from
pub row_passes : {m m' : Memory} {call : Call} {t : Told} → Sized m → RowTold m call t m' → row_sound m ≡ true →
    row_sound m' ≡ true
row_passes {m} {m'} {call} sized p passes =
    let stands = sound_stands sized passes in
    let history = stands.reached.history in
    let left : m ≡ memory_of (row_after history) = stands_left stands ∙ ap memory_of (sym stands.reached.gives) in
    stands_sound (left_stands (call ∷ history) (p.says history left).next)

-- the same of banks
module _ {m m' : BankMemory} {step : Step} {t : Told} (p : BanksTold m step t m') where
  number_below_under : banks_sound m ≡ true → t.number < unsound
  number_below_under passes =
      let told = told_number (reply_under (gated_in m) step) ∙ number_under (gated_in m) step in
      let number : t.number ≡ refusal_under m.row.states (gated_in m).banks step =
      ap (λ (x : Told). x.number) p.answer ∙ rw passes told in
      omega (arith, number, under_small m.row.states (gated_in m).banks step)

  pub banks_40 : t.number ≡ unsound → banks_sound m ≡ false
  banks_40 is = by_cases (banks_sound m) (λ e. absurd (omega (arith, number_below_under e))) (λ e. e)

  pub banks_40_only : banks_sound m ≡ false → (t.number ≡ unsound) × (m' ≡ m)
  banks_40_only fails = (ap (λ (x : Told). x.number) p.answer ∙ rw fails, p.next ∙ rw fails)

pub fresh_left_under : {m : BankMemory} → FreshBanks m → m ≡ memory_under (gated_after [])
unfolding gated_after
fresh_left_under p = stands_left_under p.stands ∙ ap memory_under p.whole

pub banks_never_40 : {m m' : BankMemory} {step : Step} {t : Told} (history : List Step) → m ≡ memory_under (gated_after history) →
    BanksTold m step t m' → t.number ≡ unsound → ⊥
banks_never_40 history left p is = clash (stands_sound_under (left_stands_under history left)) (banks_40 p is)

pub banks_pass : {m m' : BankMemory} {step : Step} {t : Told} → SizedUnder m → BanksTold m step t m' → banks_sound m ≡ true →
    banks_sound m' ≡ true
banks_pass {m} {m'} {step} sized p passes =
    let stands = sound_stands_under sized passes in
    let history = stands.gated.reached.history in
    let left : m ≡ memory_under (gated_after history) =
    stands_left_under stands ∙ ap memory_under (sym stands.gated.reached.gives) in
    stands_sound_under (left_stands_under (step ∷ history) (p.says history left).next)
