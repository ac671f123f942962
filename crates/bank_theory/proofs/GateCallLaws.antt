-- A bank call on lent memory, from its tests to its promise (docs/RULES.md, B2, O8).
use Rattle.std.specs.Prelude.{ℕ, zero, suc, ◌+◌, ◌*◌, ◌<◌, ◌≤◌, ◌≡◌, refl, true, false, cond, List, ◌++◌, eqb, get_or, set}
use Rattle.std.specs.Prelude.{Result, Ok, Err}
use Rattle.std.proofs.Common.{sym, ◌∙◌, ap, length-set, le-leb}
use Rattle.std.proofs.Math.Bool.{and-false, and-true}
use Rattle.std.proofs.lemmas.Bool.{lt-leb}
use Rattle.rules.specs.Limits.{bank_frames}
use Rattle.rules.specs.Limits
use Rattle.rules.specs.Refusals.{bank_busy}
use Rattle.rules.specs.declared.refusal.Refusal.{Refusal}
use Rattle.rules.specs.declared.refusal.Refusal.TheVariants.{BankBusy, BadBank}
use Rattle.rules.specs.AnswerLaws.{not_accepted}
use Rattle.rules.specs.Cases.{by_cases}
use Rattle.row_theory.specs.States.{Call}
use Rattle.row_theory.specs.Slots.{places_in}
use Rattle.row_theory.specs.Row.{Row, after}
use Rattle.row_theory.specs.Runs.{row_after, Reached}
use Rattle.row_theory.specs.Promise.{Memory, row_in, asked}
use Rattle.row_theory.specs.declared.Event.TheVariants.{Drop}
use Rattle.bank_theory.specs.declared.Gating.{Gating}
use Rattle.bank_theory.specs.declared.Gating.TheVariants.{Close, Cut, Open}
use Rattle.bank_theory.specs.Banks.{of_bank, in_bank, off, closing, bank_state, banks_under}
use Rattle.bank_theory.specs.Banks.{gated_to, is_cut, busy_from, gating_verdict, gating_refusal, takes}
use Rattle.bank_theory.specs.Gated.{row_without, gated_then, reply_under, row_under}
use Rattle.bank_theory.specs.BankRuns.{drops}
use Rattle.bank_theory.specs.BankPromise.{BankMemory, bank_memory, gates_of, banks_in}
use Rattle.bank_theory.specs.BankPromise.{StandsUnder, AnsweredUnder}
use Rattle.bank_theory.proofs.UnderBanks.{cut_drops}
use Rattle.bank_theory.proofs.BankLaws.{same_ok, only_cut}
use Rattle.bank_theory.proofs.BankPromiseLaws.{answered_under, row_reached}
use Rattle.bank_theory.proofs.GateLaws.{bank_is, banks_long, banks_of_gates, stored_gates}
use Rattle.bank_theory.specs.BankLending.{dropping, Dropped, Stored, Closing}

-- the verdict on a bank call, of the state that stands in the memory
abbrev verdict_in : BankMemory → Gating → ℕ → Result ℕ Refusal
verdict_in m gating bank = gating_verdict m.row.states (banks_in m.gates) gating bank

-- A3: a refused bank call leaves the memory as it was
gate_refused : {m : BankMemory} {gating : Gating} {bank : ℕ} {r : Refusal} → StandsUnder m →
    verdict_in m gating bank ≡ Err r → AnsweredUnder m (of_bank gating bank) (Err r) m
unfolding reply_under gated_then row_under banks_under
gate_refused {m} {gating} {bank} stands is =
    answered_under stands (rw is) (rw (is, and-false (is_cut gating))) stands.index stands.gated.spread

pub gate_bad_bank : {m : BankMemory} {gating : Gating} {bank : ℕ} → StandsUnder m → Limits.banks ≤ bank →
    AnsweredUnder m (of_bank gating bank) (Err BadBank) m
unfolding gating_verdict
gate_bad_bank {m} {gating} {bank} stands past = gate_refused stands (rw (le-leb Limits.banks bank past))

-- the gate of a bank's first frame is the bank's state, so this is what the call gives it
next_is : (m : BankMemory) (gating : Gating) (bank : ℕ) {next : Result ℕ Refusal} → bank < Limits.banks →
    next ≡ gated_to gating (get_or m.gates (bank * bank_frames) off) → gated_to gating (bank_state (banks_in m.gates) bank) ≡ next
next_is m gating bank small is = ap (gated_to gating) (bank_is m.gates bank small) ∙ sym is

pub gate_wrong : {m : BankMemory} {gating : Gating} {bank : ℕ} {r : Refusal} → StandsUnder m → bank < Limits.banks →
    Err r ≡ gated_to gating (get_or m.gates (bank * bank_frames) off) → AnsweredUnder m (of_bank gating bank) (Err r) m
unfolding gating_verdict
gate_wrong {m} {gating} {bank} stands small is =
    gate_refused stands (rw (lt-leb Limits.banks bank small, next_is m gating bank small is))

-- what storing a bank's new state at its gates makes of all banks
record Switched (gates : List ℕ) (bank state : ℕ) (gates' : List ℕ) : Type 0 where
  pub banks : banks_in gates' ≡ set (banks_in gates) bank state
  pub spread : gates' ≡ gates_of (banks_in gates')

stored_banks : {gates gates' : List ℕ} {bank state : ℕ} → gates ≡ gates_of (banks_in gates) → bank < Limits.banks →
    Stored gates (bank * bank_frames) bank_frames state gates' → Switched gates bank state gates'
stored_banks {gates} {gates'} {bank} {state} spread small stored =
    let before = banks_in gates in
    let are : gates' ≡ gates_of (set before bank state) = stored_gates before spread (banks_long gates) small stored in
    let banks : banks_in gates' ≡ set before bank state =
    ap banks_in are ∙ banks_of_gates (set before bank state) (length-set before bank state ∙ banks_long gates) in
    record { banks = banks; spread = are ∙ ap gates_of (sym banks) }

-- an accepted bank call whose steps left what they should keeps the promise
gate_done : {m : BankMemory} {gating : Gating} {bank state : ℕ} {row' : Memory} {gates' : List ℕ} → StandsUnder m →
    bank < Limits.banks → verdict_in m gating bank ≡ Ok state →
    row_in row' ≡ cond (is_cut gating) (row_without (in_bank bank) (row_in m.row)) (row_in m.row) →
    row'.places ≡ places_in row'.slots → Stored m.gates (bank * bank_frames) bank_frames state gates' →
    AnsweredUnder m (of_bank gating bank) (Ok 0) (bank_memory row' gates')
unfolding reply_under gated_then row_under banks_under
gate_done {m} {gating} {bank} {state} stands small verdict row index stored =
    let after = stored_banks stands.gated.spread small stored in
    let banks = after.banks in
    answered_under stands (rw verdict)
    (rw (verdict, and-true (is_cut gating)) (λ i. record { row = row i; banks = banks i })) index after.spread

-- B2: a bank that is closed or opened; its frames stay
kept_not_cut : (gating : Gating) (state : ℕ) {next : ℕ} → gated_to gating state ≡ Ok next → (next ≡ off → ⊥) →
    is_cut gating ≡ false
unfolding gated_to
kept_not_cut Close state is other = refl
kept_not_cut Open state is other = refl
kept_not_cut Cut state is other =
    by_cases (eqb state closing) (λ e. absurd (other (sym (same_ok (rw e at is))))) (λ e. not_accepted (rw e at is))

pub gate_kept : {m : BankMemory} {gating : Gating} {bank next : ℕ} {gates' : List ℕ} → StandsUnder m → bank < Limits.banks →
    Ok next ≡ gated_to gating (get_or m.gates (bank * bank_frames) off) → (next ≡ off → ⊥) →
    Stored m.gates (bank * bank_frames) bank_frames next gates' →
    AnsweredUnder m (of_bank gating bank) (Ok 0) (bank_memory m.row gates')
unfolding gating_verdict
gate_kept {m} {gating} {bank} {next} stands small is other stored =
    let kept = kept_not_cut gating (get_or m.gates (bank * bank_frames) off) (sym is) other in
    gate_done stands small (rw (lt-leb Limits.banks bank small, next_is m gating bank small is, kept))
    (rw kept) stands.index stored

-- B2: a cut
pub cut_asked : {m : BankMemory} {gating : Gating} {bank next : ℕ} → StandsUnder m → bank < Limits.banks →
    Ok next ≡ gated_to gating (get_or m.gates (bank * bank_frames) off) → next ≡ off → (gating ≡ Cut) × Closing m bank
cut_asked {m} {gating} {bank} stands small is isOff =
    let cut = only_cut gating (get_or m.gates (bank * bank_frames) off) (sym is ∙ ap Ok isOff) in
    (cut.0, record { stands = stands; small = small; gate = cut.1 })

-- drops one by one are calls of the row's own history
drops_after : (first many : ℕ) (calls : List Call) → dropping first many (row_after calls) ≡ row_after (drops first many ++ calls)
unfolding dropping drops row_after
drops_after first zero calls = refl
drops_after first (suc many) calls = ap (λ (r : Row). after r (asked Drop (first + many))) (drops_after first many calls)

drops_without : {row : Row} → Reached row → (banks : List ℕ) (bank : ℕ) → takes row.states banks Cut bank ≡ true →
    dropping (bank * bank_frames) bank_frames row ≡ row_without (in_bank bank) row
drops_without {row} reached banks bank ok =
    let calls = reached.history in
    let gives = reached.gives in
    rw (← gives)
    (drops_after (bank * bank_frames) bank_frames calls ∙ sym (cut_drops calls banks Cut bank refl (rw gives ok)))

module _ {m : BankMemory} {bank : ℕ} (it : Closing m bank) where
  cut_verdict : verdict_in m Cut bank ≡ cond (busy_from m.row.states (bank * bank_frames) bank_frames) (Err BankBusy) (Ok off)
  unfolding gating_verdict gated_to
  cut_verdict =
      rw (lt-leb Limits.banks bank it.small, bank_is m.gates bank it.small, it.gate)

  pub cut_number : gating_refusal m.row.states (banks_in m.gates) Cut bank
      ≡ cond (busy_from m.row.states (bank * bank_frames) bank_frames) bank_busy 0
  unfolding gating_refusal
  cut_number =
      rw cut_verdict
      (by_cases (busy_from m.row.states (bank * bank_frames) bank_frames) (λ e. rw e) (λ e. rw e))

  -- R31: a frame is busy
  pub cut_busy : busy_from m.row.states (bank * bank_frames) bank_frames ≡ true →
      AnsweredUnder m (of_bank Cut bank) (Err BankBusy) m
  cut_busy some = gate_refused it.stands (cut_verdict ∙ rw some)

  -- the drops are the bank's frames leaving together
  pub cut_done : {row' : Memory} {gates' : List ℕ} → busy_from m.row.states (bank * bank_frames) bank_frames ≡ false →
      Dropped m.row (bank * bank_frames) bank_frames row' → Stored m.gates (bank * bank_frames) bank_frames off gates' →
      AnsweredUnder m (of_bank Cut bank) (Ok 0) (bank_memory row' gates')
  cut_done calm dropped stored =
      let verdict : verdict_in m Cut bank ≡ Ok off = cut_verdict ∙ rw calm in
      let reached = row_reached it.stands.gated.reached in
      gate_done it.stands it.small verdict (dropped.row ∙ drops_without reached (banks_in m.gates) bank (rw verdict))
      dropped.stands.index stored
