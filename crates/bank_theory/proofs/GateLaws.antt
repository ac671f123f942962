-- Gates (definitions: BankPromise): the gate of each frame is the state of its bank, and what storing a bank's new state at
-- the gates of its frames makes of them.
use Rattle.std.specs.Prelude.{ℕ, ◌*◌, ◌<◌, ◌≡◌, List, ltb, eqb, length, get_or, set}
use Rattle.std.proofs.Common.{arith, sym, ◌∙◌, ap, ext_get_or, get_or-set_same, get_or-set_other, eqb-true, ltb-true, ltb-false}
use Rattle.std.proofs.Math.ListN.{get_or-eq_default}
use Rattle.std.proofs.lemmas.Bool.{eqb-false}
use Rattle.rules.specs.Limits.{frames, bank_frames}
use Rattle.rules.specs.Limits
use Rattle.rules.specs.Cases.{by_cases}
use Rattle.rules.specs.TableLaws.{values_length, values_at}
use Rattle.row_theory.specs.Row.{has_mark}
use Rattle.bank_theory.specs.Banks.{bank_of, in_bank, in_open, off, opened, bank_state}
use Rattle.bank_theory.specs.BankPromise.{gates_of, banks_in}
use Rattle.bank_theory.specs.BankLending.{Stored}
use Rattle.bank_theory.proofs.BankLaws.{bank_range}

pub gates_long : (banks : List ℕ) → length (gates_of banks) ≡ frames
unfolding gates_of
gates_long banks = values_length (λ frame. bank_state banks (bank_of frame)) 0 frames

pub spread_long : {gates : List ℕ} → gates ≡ gates_of (banks_in gates) → length gates ≡ frames
spread_long {gates} spread = ap length spread ∙ gates_long (banks_in gates)

pub gate_is : (banks : List ℕ) (frame : ℕ) → frame < frames → get_or (gates_of banks) frame off ≡ bank_state banks (bank_of frame)
unfolding gates_of
gate_is banks frame small =
    values_at (λ f. bank_state banks (bank_of f)) 0 frames frame small ∙
    ap (λ (f : ℕ). bank_state banks (bank_of f)) (omega arith)

pub bank_is : (gates : List ℕ) (bank : ℕ) → bank < Limits.banks →
    bank_state (banks_in gates) bank ≡ get_or gates (bank * bank_frames) off
unfolding banks_in
bank_is gates bank small =
    values_at (λ b. get_or gates (b * bank_frames) off) 0 Limits.banks bank small ∙
    ap (λ (b : ℕ). get_or gates (b * bank_frames) off) (omega arith)

pub banks_long : (gates : List ℕ) → length (banks_in gates) ≡ Limits.banks
unfolding banks_in
banks_long gates = values_length (λ bank. get_or gates (bank * bank_frames) off) 0 Limits.banks

-- the banks of the gates of banks
pub banks_of_gates : (banks : List ℕ) → length banks ≡ Limits.banks → banks_in (gates_of banks) ≡ banks
banks_of_gates banks long =
    ext_get_or off (banks_in (gates_of banks)) banks (banks_long (gates_of banks) ∙ sym long)
    (λ bank inside. let small : bank < Limits.banks = omega (arith, banks_long (gates_of banks)) in
    let first : bank_of (bank * bank_frames) ≡ bank = omega arith in
    bank_is (gates_of banks) bank small ∙ gate_is banks (bank * bank_frames) (omega arith) ∙ ap (bank_state banks) first)

-- B4: the gates serve as marks: an open gate reads 1
pub gate_marks : (banks : List ℕ) → length banks ≡ Limits.banks → (frame : ℕ) →
    has_mark (gates_of banks) frame ≡ in_open banks frame
unfolding has_mark in_open
gate_marks banks long frame =
    by_cases (ltb frame frames)
    (λ e. ap (λ (n : ℕ). eqb n opened) (gate_is banks frame (ltb-true frame frames e)))
    (λ e. let past = ltb-false frame frames e in
    ap (λ (n : ℕ). eqb n opened)
    (get_or-eq_default (gates_of banks) off {n = frame} (omega (arith, gates_long banks)) ∙
    sym (get_or-eq_default banks off {n = bank_of frame} (omega arith))))

-- B2: a bank's state stored at the gates of all its frames
pub stored_gates : (banks : List ℕ) {gates gates' : List ℕ} {bank state : ℕ} → gates ≡ gates_of banks →
    length banks ≡ Limits.banks → bank < Limits.banks → Stored gates (bank * bank_frames) bank_frames state gates' →
    gates' ≡ gates_of (set banks bank state)
unfolding in_bank
stored_gates banks {gates} {gates'} {bank} {state} are long small stored =
    let here = set banks bank state in
    ext_get_or off gates' (gates_of here) (omega (arith, stored.long, ap length are, gates_long banks, gates_long here))
    (λ frame inside. let within-row : frame < frames = omega (arith, stored.long, ap length are, gates_long banks) in
    stored.at frame ∙
    rw (← bank_range bank frame, gate_is here frame within-row)
    (by_cases (eqb (bank_of frame) bank)
    (λ e. rw (e, eqb-true (bank_of frame) bank e) (sym (get_or-set_same banks bank state off (omega arith))))
    (λ e. rw (e, are) (gate_is banks frame within-row ∙
    sym (get_or-set_other banks bank (bank_of frame) state off (eqb-false (bank_of frame) bank e))))))
