-- Fresh banks, a frame call and a victim under banks on lent memory, from their tests to their promises (docs/RULES.md, B1, B3,
-- B4, O7).
use Rattle.std.specs.Prelude.{ℕ, ◌≡◌, Bool, true, false, List, [], Result, Err}
use Rattle.std.proofs.Common.{sym, ◌∙◌, ap}
use Rattle.rules.specs.declared.Frame.{Frame}
use Rattle.rules.specs.declared.refusal.Refusal.{Refusal}
use Rattle.rules.specs.declared.refusal.Refusal.TheVariants.{BankNotOpen}
use Rattle.row_theory.specs.States.{Call}
use Rattle.row_theory.specs.Row.{Row, victim_among, has_mark}
use Rattle.row_theory.specs.Promise.{Memory, Answered, FreshRow, OldestIdle}
use Rattle.bank_theory.specs.Banks.{of_frame, in_open, fresh_banks, banks_under, shut_out}
use Rattle.bank_theory.specs.Banks.{shut}
use Rattle.bank_theory.specs.Gated.{fresh_gated, gated_then, reply_under, row_under}
use Rattle.bank_theory.specs.BankRuns.{gated_after}
use Rattle.bank_theory.specs.BankPromise.{BankMemory, bank_memory, gates_of, banks_in, gated_in, gated_with, ReachedGates}
use Rattle.bank_theory.specs.BankPromise.{StandsUnder, AnsweredUnder, FreshBanks, OldestOpen}
use Rattle.bank_theory.proofs.BankPromiseLaws.{answered_under, oldest_open}
use Rattle.bank_theory.proofs.GateLaws.{banks_long, gate_marks}

-- B1: open gates over a fresh row
pub fresh_banks_law : {m : Memory} {gates : List ℕ} → FreshRow m → banks_in gates ≡ fresh_banks →
    gates ≡ gates_of (banks_in gates) → FreshBanks (bank_memory m gates)
unfolding gated_after fresh_gated
fresh_banks_law {m} {gates} fresh banks spread =
    let row = fresh.whole in
    let whole : gated_in (bank_memory m gates) ≡ fresh_gated = λ i. record { row = row i; banks = banks i } in
    record {
      whole = whole;
      stands = record {
        gated = record { reached = record { history = []; gives = sym whole }; spread = spread };
        index = fresh.stands.index;
      };
    }

-- R33, B4: the gate of a frame says what its bank's state says
open_same : {gates : List ℕ} → gates ≡ gates_of (banks_in gates) → has_mark gates ≡ in_open (banks_in gates)
open_same {gates} spread =
    ap has_mark spread ∙ (λ i frame. gate_marks (banks_in gates) (banks_long gates) frame i)

shut_same : {gates : List ℕ} (call : Call) → gates ≡ gates_of (banks_in gates) →
    shut_out (has_mark gates) call ≡ shut (banks_in gates) call
shut_same call spread = ap (λ (opens : ℕ → Bool). shut_out opens call) (open_same spread)

-- A3: a call that finds its bank not open leaves the memory as it was
pub call_shut : {m : BankMemory} {call : Call} → StandsUnder m → shut_out (has_mark m.gates) call ≡ true →
    AnsweredUnder m (of_frame call) (Err BankNotOpen) m
unfolding reply_under gated_then row_under banks_under
call_shut {m} {call} stands e =
    let isShut = sym (shut_same call stands.gated.spread) ∙ e in
    answered_under stands (rw isShut) (rw isShut) stands.index stands.gated.spread

-- B3: any other is the row's
pub call_through : {m : BankMemory} {call : Call} {reply : Result ℕ Refusal} {row' : Memory} → StandsUnder m →
    shut_out (has_mark m.gates) call ≡ false → Answered m.row call reply row' →
    AnsweredUnder m (of_frame call) reply (bank_memory row' m.gates)
unfolding reply_under gated_then row_under banks_under
call_through {m} {call} stands e met =
    let through = sym (shut_same call stands.gated.spread) ∙ e in
    let row = met.next in
    answered_under stands (rw through met.answer)
    (rw through (λ i. record { row = row i; banks = banks_in m.gates }))
    met.stands.index stands.gated.spread

-- B4: the oldest idle frame with an open gate
pub victim_open : {row : Row} {gates : List ℕ} {victim : Result Frame Refusal} → ReachedGates row gates →
    OldestIdle row (has_mark gates) victim → OldestOpen (gated_with row gates) victim
victim_open {row} given p =
    oldest_open (p.answer ∙ ap (λ (opens : ℕ → Bool). victim_among opens row) (open_same given.spread))
