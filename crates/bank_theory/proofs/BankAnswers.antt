-- What holds of any answer that meets a promise of the row under banks (docs/RULES.md, D1, A1, A3): a refusal changes
-- nothing, and two answers to one call are equal.
use Rattle.std.specs.Prelude.{ℕ, ◌*◌, ◌<◌, ◌≡◌, refl, true, List, ◌∷◌, get_or, Result, Ok}
use Rattle.rules.specs.declared.refusal.Refusal.{Refusal}
use Rattle.std.proofs.Common.{arith, sym, ◌∙◌, ap, eqb-true, eq-eqb}
use Rattle.std.proofs.Math.Bool.{and-false}
use Rattle.rules.specs.Limits.{frames, bank_frames}
use Rattle.rules.specs.Refusals.{bank_busy}
use Rattle.rules.specs.Cases.{by_cases}
use Rattle.rules.specs.declared.Frame.{Frame}
use Rattle.row_theory.specs.States.{Call, absent, idle, busy, state_of, refusal_of, accepts}
use Rattle.row_theory.specs.StateLaws.{accepted}
use Rattle.row_theory.specs.Row.{Row, after, reply_number, reply_place}
use Rattle.row_theory.proofs.SoundRow.{after_refused}
use Rattle.bank_theory.specs.declared.Gating.{Gating}
use Rattle.bank_theory.specs.declared.Gating.TheVariants.{Cut}
use Rattle.bank_theory.specs.Banks.{Step, of_frame, of_bank, bank_of, in_open, off, opened, bank_state, gating_refusal, shut}
use Rattle.bank_theory.specs.Banks.{is_cut, takes, refusal_under, banks_under}
use Rattle.bank_theory.specs.BankHistory.{Seen, seen_after}
use Rattle.bank_theory.specs.Gated.{Gated, row_under, gated_then}
use Rattle.bank_theory.specs.BankRuns.{ReachedUnder}
use Rattle.bank_theory.specs.BankPromise.{BankMemory, gates_of, banks_in, gated_with, gated_in, ReachedGates, StandsUnder}
use Rattle.bank_theory.specs.BankPromise.{AnsweredUnder, FreshBanks, OldestOpen}
use Rattle.bank_theory.proofs.BankLaws.{taken, refused, takes_number, takes_from, calm_frame, BusyFrame, forbidden}
use Rattle.bank_theory.proofs.UnderBanks.{seen_in, same_seen}
use Rattle.bank_theory.proofs.BankTheorems.{off_empty, busy_kept_under}
use Rattle.bank_theory.proofs.BankPromiseLaws.{number_under, place_under, same_bank_memory}
use Rattle.bank_theory.proofs.GateLaws.{gate_is}

-- a refused call of a frame, as the row has it
refused_call : (row : Row) (call : Call) → 0 < refusal_of row.states call → after row call ≡ row
unfolding refusal_of
refused_call row call some =
    by_cases (accepts row.states call) (λ e. absurd (omega (arith, rw (accepted row.states call e).next at some)))
    (after_refused row call)

-- A3: a call with a number changes nothing
refused_then : (gated : Gated) (step : Step) → 0 < refusal_under gated.row.states gated.banks step →
    gated_then gated step ≡ gated
unfolding gated_then row_under banks_under refusal_under
refused_then gated (of_frame call) some =
    by_cases (shut gated.banks call)
    (λ e. rw e)
    (λ e. let row = refused_call gated.row call (rw e at some) in
    rw e (λ i. record { row = row i; banks = gated.banks }))
refused_then gated (of_bank gating bank) some =
    let states = gated.row.states in
    by_cases (takes states gated.banks gating bank)
    (λ ok. let number = gating_refusal states gated.banks gating bank in
    let none = eqb-true number 0 (takes_number states gated.banks gating bank ∙ ok) in
    absurd (omega arith))
    (λ no. rw ((refused states gated.banks gating bank no).verdict, and-false (is_cut gating)))

module _ {m m' : BankMemory} {step : Step} {reply : Result ℕ Refusal} where
  -- A1: the place of a reply is 0
  pub reply_place_under : AnsweredUnder m step reply m' → reply_place reply ≡ 0
  reply_place_under met = ap reply_place met.answer ∙ place_under (gated_in m) step

  -- O7, O8: its number is the refusal's, and 0 where the call is accepted
  pub reply_number_under : AnsweredUnder m step reply m' →
      reply_number reply ≡ refusal_under (gated_in m).row.states (gated_in m).banks step
  reply_number_under met = ap reply_number met.answer ∙ number_under (gated_in m) step

  -- A3: a reply with a number leaves the whole memory as it was: slots, places, states, front, number held and gates
  pub refused_leaves_under : StandsUnder m → AnsweredUnder m step reply m' → 0 < reply_number reply → m' ≡ m
  refused_leaves_under stands met some =
      same_bank_memory
      (met.next ∙ refused_then (gated_in m) step (omega (arith, reply_number_under met)))
      met.stands stands

-- the states of frames and banks that stand in the memory are those of a history that gives it
seen_in_law : {gated : Gated} (reached : ReachedUnder gated) → seen_after reached.history ≡ seen_in gated
seen_in_law reached = sym (same_seen reached.history) ∙ ap seen_in reached.gives

-- the gate of a frame in the memory is the state of its bank
gate_in : {gates : List ℕ} (frame : ℕ) → gates ≡ gates_of (banks_in gates) → frame < frames →
    get_or gates frame off ≡ bank_state (banks_in gates) (bank_of frame)
gate_in {gates} frame spread small =
    ap (λ (l : List ℕ). get_or l frame off) spread ∙ gate_is (banks_in gates) frame small

-- D1, B6: of the memory that calls leave: no frame with an off gate is held, so none of them is busy
pub off_gate_empty : {m : BankMemory} → StandsUnder m → (frame : ℕ) → frame < frames → get_or m.gates frame off ≡ off →
    state_of m.row.states frame ≡ absent
off_gate_empty {m} stands frame small isOff =
    let reached = stands.gated.reached in
    let seen = seen_in_law reached in
    let bank : bank_state (seen_after reached.history).banks (bank_of frame) ≡ off =
    ap (λ (s : Seen). bank_state s.banks (bank_of frame)) seen ∙ sym (gate_in frame stands.gated.spread small) ∙ isOff in
    sym (ap (λ (s : Seen). state_of s.states frame) seen) ∙ off_empty reached.history frame small bank

-- D1, R31: a cut that was answered as done found no frame of its bank busy
pub cut_found_calm : {m m' : BankMemory} {bank examined : ℕ} → AnsweredUnder m (of_bank Cut bank) (Ok examined) m' →
    (frame : ℕ) → bank_of frame ≡ bank → state_of m.row.states frame ≡ busy → ⊥
unfolding refusal_under
cut_found_calm {m} {bank = bank} met frame at is_busy =
    let ok = takes_from m.row.states (banks_in m.gates) Cut bank (sym (reply_number_under met)) in
    let took = taken m.row.states (banks_in m.gates) Cut bank ok in
    calm_frame m.row.states (bank * bank_frames) bank_frames frame (took.calm refl) (omega arith) (omega arith) is_busy

-- R31: and one that was answered with 31 found one
pub cut_found_busy : {m m' : BankMemory} {gating : Gating} {bank : ℕ} {reply : Result ℕ Refusal} →
    AnsweredUnder m (of_bank gating bank) reply m' → reply_number reply ≡ bank_busy → BusyFrame m.row.states bank
unfolding refusal_under
cut_found_busy {m} {gating = gating} {bank = bank} met is =
    forbidden m.row.states (banks_in m.gates) gating bank (sym (reply_number_under met) ∙ is)

-- D1: whatever was asked and answered, a busy frame is not absent after it
pub busy_stays_held : {m m' : BankMemory} {step : Step} {reply : Result ℕ Refusal} → StandsUnder m →
    AnsweredUnder m step reply m' → (frame : ℕ) → state_of m.row.states frame ≡ busy → state_of m'.row.states frame ≡ absent → ⊥
busy_stays_held {m} {m'} {step} stands met frame is_busy gone =
    let reached = stands.gated.reached in
    let history = reached.history in
    let next : seen_in (gated_in m') ≡ seen_after (step ∷ history) =
    ap seen_in (met.says history reached.gives).next ∙ same_seen (step ∷ history) in
    busy_kept_under step history frame (ap (λ (s : Seen). state_of s.states frame) (seen_in_law reached) ∙ is_busy)
    (sym (ap (λ (s : Seen). state_of s.states frame) next) ∙ gone)

-- D1, B4: a frame that was given as victim is idle, and its gate is open
pub victim_idle_open : {row : Row} {gates : List ℕ} {frame : Frame} → ReachedGates row gates →
    OldestOpen (gated_with row gates) (Ok frame) →
    (state_of row.states frame.0 ≡ idle) × (in_open (banks_in gates) frame.0 ≡ true)
unfolding in_open
victim_idle_open {row} {gates} {frame} given met =
    let reached = given.reached in
    let seen = seen_in_law reached in
    let go = (met.says reached.history reached.gives).may_go in (
      sym (ap (λ (s : Seen). state_of s.states frame.0) seen) ∙ go.0,
      eq-eqb _ opened (sym (ap (λ (s : Seen). bank_state s.banks (bank_of frame.0)) seen) ∙ go.1),
    )

-- two answers to one call, two fresh states, two victims
pub answered_under_once : {m m₁ m₂ : BankMemory} {step : Step} {reply₁ reply₂ : Result ℕ Refusal} →
    AnsweredUnder m step reply₁ m₁ → AnsweredUnder m step reply₂ m₂ → (reply₁ ≡ reply₂) × (m₁ ≡ m₂)
answered_under_once one two =
    (one.answer ∙ sym two.answer, same_bank_memory (one.next ∙ sym two.next) one.stands two.stands)

pub fresh_banks_once : {m₁ m₂ : BankMemory} → FreshBanks m₁ → FreshBanks m₂ → m₁ ≡ m₂
fresh_banks_once one two = same_bank_memory (one.whole ∙ sym two.whole) one.stands two.stands

pub oldest_open_once : {gated : Gated} {victim₁ victim₂ : Result Frame Refusal} →
    OldestOpen gated victim₁ → OldestOpen gated victim₂ → victim₁ ≡ victim₂
oldest_open_once one two = one.answer ∙ sym two.answer
