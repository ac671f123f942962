-- Laws of banks (definitions: Banks): the frames of a bank are a range of numbers, and what an accepted bank call says.
use Rattle.std.specs.Prelude.{ℕ, zero, suc, ◌+◌, ◌*◌, ◌<◌, ◌≤◌, ◌≡◌, refl, Bool, true, false, ◌&&◌, List, leb, eqb}
use Rattle.std.specs.Prelude.{Result, Ok, Err, is_ok, IfErr, MatchResult}
use Rattle.std.proofs.Common.{arith, sym, ◌∙◌, ap, eqb-true, eq-eqb, le-leb, le-ltb, lt-ltb, leb-true, leb-false}
use Rattle.std.proofs.lemmas.Result.{MatchResult-at_ok}
use Rattle.std.proofs.lemmas.Bool.{eqb-false}
use Rattle.rules.specs.Limits.{frames, bank_frames}
use Rattle.rules.specs.Limits
use Rattle.rules.specs.Refusals.{number_of, bank_busy, refusal_number, refusal_place}
use Rattle.rules.specs.declared.refusal.Refusal.{Refusal}
use Rattle.rules.specs.declared.refusal.Refusal.TheVariants.{WrongBankState, BankBusy, BadBank}
use Rattle.rules.specs.AnswerLaws.{not_accepted, in_order, passed}
use Rattle.rules.specs.Cases.{by_cases, clash, and_right}
use Rattle.row_theory.specs.States.{busy, state_of}
use Rattle.row_theory.specs.StateLaws.{number_ok}
use Rattle.bank_theory.specs.declared.Gating.{Gating}
use Rattle.bank_theory.specs.declared.Gating.TheVariants.{Close, Cut, Open}
use Rattle.bank_theory.specs.Banks.{off, opened, closing, in_bank, bank_of, bank_state, gated_to, is_cut}
use Rattle.bank_theory.specs.Banks.{busy_from, busy_in, gating_verdict, gating_refusal, takes}
use Rattle.bank_theory.specs.BankLending.{within}

-- what is answered is answered
pub same_ok : {a b : ℕ} → ◌≡◌ {A = Result ℕ Refusal} (Ok a) (Ok b) → a ≡ b
same_ok e = cc

-- L8: the frames of a bank are so many from its first on
pub bank_range : (bank frame : ℕ) → in_bank bank frame ≡ within (bank * bank_frames) bank_frames frame
unfolding in_bank within
bank_range bank frame =
    by_cases (eqb (bank_of frame) bank)
    (λ e. let same : bank_of frame ≡ bank = eqb-true (bank_of frame) bank e in
    rw (e, le-leb (bank * bank_frames) frame (omega arith), lt-ltb frame (bank * bank_frames + bank_frames) (omega arith)))
    (λ e. let other = eqb-false (bank_of frame) bank e in
    by_cases (leb (bank * bank_frames) frame)
    (λ low. let at = leb-true (bank * bank_frames) frame low in
    rw (e, low, le-ltb frame (bank * bank_frames + bank_frames) (omega arith)))
    (λ below. rw (e, below)))

-- every frame lies in a bank
pub bank_small : (frame : ℕ) → frame < frames → bank_of frame < Limits.banks
bank_small frame small = omega arith

-- R31: if none of the frames is busy, each of them is not
pub calm_frame : (states : List ℕ) (first many frame : ℕ) → busy_from states first many ≡ false → first ≤ frame →
    frame < first + many → state_of states frame ≡ busy → ⊥
unfolding busy_from
calm_frame states first zero frame calm low high is_busy = absurd (omega arith)
calm_frame states first (suc many) frame calm low high is_busy =
    by_cases (eqb (state_of states first) busy)
    (λ e. clash refl (rw e at calm))
    (λ e. let apart : first ≡ frame → ⊥ = λ same. eqb-false (state_of states first) busy e (rw same is_busy) in
    calm_frame states (suc first) many frame (rw e at calm) (omega arith) (omega arith) is_busy)

-- B2: what a bank call gives a bank is one of the three states, or 30
pub gated_range : (gating : Gating) (state : ℕ) →
    MatchResult (gated_to gating state) (λ next. next ≤ closing) (λ r. r ≡ WrongBankState)
unfolding gated_to
gated_range Close state = by_cases (eqb state opened) (λ e. rw e (omega arith)) (λ e. rw e refl)
gated_range Cut state = by_cases (eqb state closing) (λ e. rw e (omega arith)) (λ e. rw e refl)
gated_range Open state = by_cases (eqb state opened) (λ e. rw e refl) (λ e. rw e (omega arith))

-- B2: a bank becomes off by a cut alone, and only if it was closing
pub only_cut : (gating : Gating) (state : ℕ) → gated_to gating state ≡ Ok off → (gating ≡ Cut) × (state ≡ closing)
unfolding gated_to
only_cut Close state is =
    by_cases (eqb state opened) (λ e. absurd (omega (arith, same_ok (rw e at is)))) (λ e. not_accepted (rw e at is))
only_cut Cut state is =
    by_cases (eqb state closing) (λ e. (refl, eqb-true state closing e)) (λ e. not_accepted (rw e at is))
only_cut Open state is =
    by_cases (eqb state opened) (λ e. not_accepted (rw e at is)) (λ e. absurd (omega (arith, same_ok (rw e at is))))

-- what acceptance says
pub record Taken (states banks : List ℕ) (gating : Gating) (bank : ℕ) : Type 0 where
  pub small : bank < Limits.banks
  pub state : ℕ
  pub verdict : gating_verdict states banks gating bank ≡ Ok state
  pub allowed : gated_to gating (bank_state banks bank) ≡ Ok state
  pub known : state ≤ closing
  pub calm : is_cut gating ≡ true → busy_in states bank ≡ false

pub taken : (states banks : List ℕ) (gating : Gating) (bank : ℕ) → takes states banks gating bank ≡ true →
    Taken states banks gating bank
unfolding gating_verdict
taken states banks gating bank e =
    let some = is_cut gating && busy_in states bank in
    let tests = passed (leb Limits.banks bank) BadBank some BankBusy (gated_to gating (bank_state banks bank)) e in
    record {
      small = leb-false Limits.banks bank tests.small;
      state = tests.state;
      verdict = tests.verdict;
      allowed = tests.allowed;
      known =
          MatchResult-at_ok (λ next. next ≤ closing) (λ r. r ≡ WrongBankState) tests.state tests.allowed
          (gated_range gating (bank_state banks bank));
      calm = λ cut. rw cut at tests.calm;
    }

-- and what refusal says
pub record Refused (states banks : List ℕ) (gating : Gating) (bank : ℕ) : Type 0 where
  pub reason : Refusal
  pub verdict : gating_verdict states banks gating bank ≡ Err reason

refused_as : (v : Result ℕ Refusal) → is_ok v ≡ false → (r : Refusal) × (v ≡ Err r)
refused_as (Ok state) e = clash refl e
refused_as (Err r) e = (r, refl)

pub refused : (states banks : List ℕ) (gating : Gating) (bank : ℕ) → takes states banks gating bank ≡ false →
    Refused states banks gating bank
refused states banks gating bank e =
    let found = refused_as (gating_verdict states banks gating bank) e in record { reason = found.0; verdict = found.1 }

-- a bank call is accepted exactly where its number is 0
pub takes_number : (states banks : List ℕ) (gating : Gating) (bank : ℕ) →
    eqb (gating_refusal states banks gating bank) 0 ≡ takes states banks gating bank
unfolding gating_refusal
takes_number states banks gating bank = number_ok (gating_verdict states banks gating bank)

pub takes_from : (states banks : List ℕ) (gating : Gating) (bank : ℕ) → gating_refusal states banks gating bank ≡ 0 →
    takes states banks gating bank ≡ true
takes_from states banks gating bank none =
    sym (takes_number states banks gating bank) ∙ eq-eqb (gating_refusal states banks gating bank) 0 none

-- A1: a refused bank call has no place
placeless : (past some : Bool) (next : Result ℕ Refusal) →
    MatchResult next (λ s. s ≤ closing) (λ r. r ≡ WrongBankState)
    → IfErr (in_order past BadBank some BankBusy next) (λ r. refusal_place r ≡ 0)
placeless true some next h = refl
placeless false some (Err r) h = ap refusal_place h
placeless false true (Ok state) h = refl
placeless false false (Ok state) h = tt

pub gating_placeless : (states banks : List ℕ) (gating : Gating) (bank : ℕ) →
    IfErr (gating_verdict states banks gating bank) (λ r. refusal_place r ≡ 0)
unfolding gating_verdict
gating_placeless states banks gating bank =
    placeless (leb Limits.banks bank) (is_cut gating && busy_in states bank) (gated_to gating (bank_state banks bank))
    (gated_range gating (bank_state banks bank))

-- R31, the other way: where the test says so, there is a busy frame in the bank
pub record BusyFrame (states : List ℕ) (bank : ℕ) : Type 0 where
  pub frame : ℕ
  pub at : bank_of frame ≡ bank
  pub is_busy : state_of states frame ≡ busy

busy_frame_law : (states : List ℕ) (bank first many : ℕ) → bank * bank_frames ≤ first →
    first + many ≤ bank * bank_frames + bank_frames → busy_from states first many ≡ true → BusyFrame states bank
unfolding busy_from
busy_frame_law states bank first zero low high some = clash some refl
busy_frame_law states bank first (suc many) low high some =
    by_cases (eqb (state_of states first) busy)
    (λ e. record { frame = first; at = omega arith; is_busy = eqb-true (state_of states first) busy e })
    (λ e. busy_frame_law states bank (suc first) many (omega arith) (omega arith) (rw e at some))

busy_there : (states : List ℕ) (bank : ℕ) → busy_in states bank ≡ true → BusyFrame states bank
busy_there states bank some =
    busy_frame_law states bank (bank * bank_frames) bank_frames (omega arith) (omega arith) some

-- so 31 is given only where a frame of the bank is busy
only_busy : (past some : Bool) (next : Result ℕ Refusal) → MatchResult next (λ s. s ≤ closing) (λ r. r ≡ WrongBankState) →
    number_of (in_order past BadBank some BankBusy next) ≡ bank_busy → some ≡ true
only_busy true some next h e = absurd (omega arith)
only_busy false some (Err r) h e = absurd (omega (arith, ap refusal_number h))
only_busy false true (Ok state) h e = refl
only_busy false false (Ok state) h e = absurd (omega arith)

pub forbidden : (states banks : List ℕ) (gating : Gating) (bank : ℕ) → gating_refusal states banks gating bank ≡ bank_busy →
    BusyFrame states bank
unfolding gating_refusal gating_verdict
forbidden states banks gating bank e =
    let both = only_busy (leb Limits.banks bank) (is_cut gating && busy_in states bank) (gated_to gating (bank_state banks bank))
    (gated_range gating (bank_state banks bank)) e in
    busy_there states bank (and_right (is_cut gating) (busy_in states bank) both)
