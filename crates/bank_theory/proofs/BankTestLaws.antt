-- The test of a row under banks (BankTest) is exact: lent memory passes it exactly if fresh banks and calls give it.
use Rattle.std.specs.Prelude.{ℕ, ◌+◌, ◌-◌, ◌*◌, ◌<◌, ◌≤◌, ◌≡◌, Bool, true, false, cond, ◌&&◌, List, [], ◌∷◌, leb}
use Rattle.std.specs.Prelude.{ltb, eqb, length}
use native.Mathlib.Omega.{arith}
use Rattle.std.proofs.Math.Path.{sym}
use Rattle.std.proofs.Common.{◌∙◌, ap, subst, ext_get_or}
use Rattle.std.proofs.Math.ListN.{get_or, get_or-eq_default}
use borrow.Author.Tests.{eq-eqb, eqb-true, le-leb, leb-true, ltb-true, ltb-false}
use Rattle.rules.specs.Limits.{frames, bank_frames}
use Rattle.rules.specs.Limits
use Rattle.rules.specs.Cases.{by_cases, clash, and_left, and_right}
use Rattle.rules.specs.AllBelow.{all_below, all_at, all_make}
use Rattle.row_theory.specs.States.{absent, state_of}
use Rattle.row_theory.specs.RowTest.{row_sound, RowTested}
use Rattle.row_theory.specs.TestParts.{Sized}
use Rattle.row_theory.proofs.TestLaws.{sound_stands, stands_sound, stands_sized}
use Rattle.bank_theory.specs.Banks.{Step, of_frame, of_bank, bank_of, off, closing, bank_state, takes}
use Rattle.bank_theory.specs.Banks.{fresh_banks, banks_under}
use Rattle.bank_theory.specs.BankHistory.{Seen, seen_then, seen_after}
use Rattle.bank_theory.specs.BankPromise.{BankMemory, gates_of, banks_in, gated_in, StandsUnder}
use Rattle.bank_theory.specs.BankTest.{gate_sound, bank_sound, banks_sound, BanksTested}
use Rattle.bank_theory.proofs.BankLaws.{bank_small, taken, refused}
use Rattle.bank_theory.proofs.UnderBanks.{seen_in, same_seen}
use Rattle.bank_theory.proofs.Powered.{Powered, powered_after, each_open}
use Rattle.bank_theory.proofs.BankPromiseLaws.{row_stands}
use Rattle.bank_theory.specs.BankLending.{GateTested}
use Rattle.bank_theory.proofs.GateLaws.{gates_long, gate_is, bank_is, banks_long}
use Rattle.bank_theory.proofs.Regated.{KnownBanks, PoweredBy, regated, known_stored}

-- lent banks have as many slots, places, states and gates as their types say
pub record SizedUnder (m : BankMemory) : Type 0 where
  pub row : Sized m.row
  pub gates : length m.gates ≡ frames

-- over any calls every bank's state is one of the three
known_fresh : (bank : ℕ) → bank_state fresh_banks bank ≤ closing
known_fresh bank =
    by_cases (ltb bank Limits.banks) (λ e. omega (arith, each_open Limits.banks bank (ltb-true bank Limits.banks e)))
    (λ e. let past = ltb-false bank Limits.banks e in
    omega (arith, get_or-eq_default fresh_banks off {n = bank} past))

known_then : (seen : Seen) (step : Step) → length seen.banks ≡ Limits.banks → KnownBanks seen.banks →
    KnownBanks (seen_then seen step).banks
unfolding seen_then banks_under
known_then seen (of_frame call) long known = known
known_then seen (of_bank gating bank) long known =
    by_cases (takes seen.states seen.banks gating bank)
    (λ ok. let took = taken seen.states seen.banks gating bank ok in
    rw took.verdict (known_stored seen.states seen.banks bank took.state (omega (arith, took.small)) took.known known))
    (λ no. rw (refused seen.states seen.banks gating bank no).verdict known)

known_after : (history : List Step) → KnownBanks (seen_after history).banks
unfolding seen_after
known_after [] = known_fresh
known_after (step ∷ history) =
    known_then (seen_after history) step (powered_after history).long (known_after history)

-- what the test says of one gate
record GateSays (gates states : List ℕ) (first frame : ℕ) : Type 0 where
  pub same : get_or gates frame off ≡ get_or gates first off
  pub known : get_or gates frame off ≤ closing
  pub out : get_or gates frame off ≡ off → state_of states frame ≡ absent

gate_says : (gates states : List ℕ) (first frame : ℕ) → gate_sound gates states first frame ≡ true →
    GateSays gates states first frame
unfolding gate_sound
gate_says gates states first frame e =
    let gate = get_or gates frame off in
    let bank = get_or gates first off in
    let gone = eqb (state_of states frame) absent in
    let rest = and_right (eqb gate bank) (cond (eqb gate off) gone (leb gate closing)) e in
    record {
      same = eqb-true gate bank (and_left (eqb gate bank) (cond (eqb gate off) gone (leb gate closing)) e);
      known =
          by_cases (eqb gate off) (λ is. omega (arith, eqb-true gate off is))
          (λ other. leb-true gate closing (rw other at rest));
      out = λ is. eqb-true (state_of states frame) absent (rw (eq-eqb gate off is) at rest);
    }

-- the gate of a frame, in the test of its bank
frame_gate : (gates states : List ℕ) → all_below (bank_sound gates states) Limits.banks ≡ true → (frame : ℕ) → frame < frames →
    GateSays gates states (bank_of frame * bank_frames) frame
unfolding bank_sound
frame_gate gates states all frame small =
    let bank = bank_of frame in
    let first = bank * bank_frames in
    let n = frame - first in
    let same : first + n ≡ frame = omega arith in
    let here = all_at (bank_sound gates states) Limits.banks bank (bank_small frame small) all in
    let gate = all_at (λ i. gate_sound gates states first (first + i)) bank_frames n (omega arith) here in
    gate_says gates states first frame (rw same at gate)

-- B1, B6: memory that passes holds what fresh banks and calls give
module _ {m : BankMemory} (sized : SizedUnder m) (row_ok : row_sound m.row ≡ true)
    (gatesOk : all_below (bank_sound m.gates m.row.states) Limits.banks ≡ true) where
  abbrev at_gate : (frame : ℕ) → frame < frames → GateSays m.gates m.row.states (bank_of frame * bank_frames) frame
  at_gate = frame_gate m.gates m.row.states gatesOk

  -- a frame's gate is the state of its bank
  gate_bank : (frame : ℕ) → frame < frames → get_or m.gates frame off ≡ bank_state (banks_in m.gates) (bank_of frame)
  gate_bank frame small = (at_gate frame small).same ∙ sym (bank_is m.gates (bank_of frame) (bank_small frame small))

  spread : m.gates ≡ gates_of (banks_in m.gates)
  spread =
      ext_get_or off m.gates (gates_of (banks_in m.gates)) (sized.gates ∙ sym (gates_long (banks_in m.gates)))
      (λ frame inside. let small : frame < frames = omega (arith, sized.gates) in
      gate_bank frame small ∙ sym (gate_is (banks_in m.gates) frame small))

  powered : PoweredBy m.row.states (banks_in m.gates)
  powered =
      record {
        long = banks_long m.gates;
        empty = λ frame small isOff. (at_gate frame small).out (gate_bank frame small ∙ isOff);
      }

  known : KnownBanks (banks_in m.gates)
  known bank =
      by_cases (ltb bank Limits.banks)
      (λ e. let small = ltb-true bank Limits.banks e in
      omega (arith, bank_is m.gates bank small, (at_gate (bank * bank_frames) (omega arith)).known))
      (λ e. let past = ltb-false bank Limits.banks e in
      omega (arith, get_or-eq_default (banks_in m.gates) off {n = bank} (omega (arith, banks_long m.gates))))

  gates_stand : StandsUnder m
  gates_stand =
      let stands = sound_stands sized.row row_ok in
      record { gated = record { reached = regated stands.reached powered known; spread = spread }; index = stands.index }

-- X6: what passes the test is what fresh banks and calls give
pub sound_stands_under : {m : BankMemory} → SizedUnder m → banks_sound m ≡ true → StandsUnder m
unfolding banks_sound
sound_stands_under {m} sized e =
    let gatesOk = all_below (bank_sound m.gates m.row.states) Limits.banks in
    gates_stand sized (and_left (row_sound m.row) gatesOk e) (and_right (row_sound m.row) gatesOk e)

-- and what they give passes it
module _ {m : BankMemory} (stands : StandsUnder m) where
  abbrev history : List Step
  history = stands.gated.reached.history

  seen_is : seen_after history ≡ seen_in (gated_in m)
  seen_is = sym (same_seen history) ∙ ap seen_in stands.gated.reached.gives

  abbrev has_power : Powered (seen_in (gated_in m))
  has_power = subst Powered seen_is (powered_after history)

  abbrev is_known : KnownBanks (banks_in m.gates)
  is_known = subst (λ (s : Seen). KnownBanks s.banks) seen_is (known_after history)

  gate_as : (frame : ℕ) → frame < frames → get_or m.gates frame off ≡ bank_state (banks_in m.gates) (bank_of frame)
  gate_as frame small =
      ap (λ (l : List ℕ). get_or l frame off) stands.gated.spread ∙ gate_is (banks_in m.gates) frame small

  gate_passes : (frame : ℕ) → frame < frames → gate_sound m.gates m.row.states (bank_of frame * bank_frames) frame ≡ true
  unfolding gate_sound
  gate_passes frame small =
      let gate = get_or m.gates frame off in
      let first = get_or m.gates (bank_of frame * bank_frames) off in
      let same = gate_as frame small ∙ bank_is m.gates (bank_of frame) (bank_small frame small) in
      let low : gate ≤ closing = omega (arith, gate_as frame small, is_known (bank_of frame)) in
      rw (eq-eqb gate first same)
      (by_cases (eqb gate off)
      (λ e. let isOff = sym (gate_as frame small) ∙ eqb-true gate off e in
      rw e (eq-eqb (state_of m.row.states frame) absent (has_power.empty frame small isOff)))
      (λ e. rw e (le-leb gate closing low)))

  bank_passes : (bank : ℕ) → bank < Limits.banks → bank_sound m.gates m.row.states bank ≡ true
  unfolding bank_sound
  bank_passes bank small =
      all_make (λ n. gate_sound m.gates m.row.states (bank * bank_frames) (bank * bank_frames + n)) bank_frames
      (λ n low. let frame = bank * bank_frames + n in
      let at : bank_of frame ≡ bank = omega arith in
      rw at at (gate_passes frame (omega arith)))

  pub stands_sound_under : banks_sound m ≡ true
  unfolding banks_sound
  stands_sound_under =
      rw (stands_sound (row_stands stands), all_make (bank_sound m.gates m.row.states) Limits.banks bank_passes)

pub banks_tested : {m : BankMemory} {r : Bool} → SizedUnder m → r ≡ banks_sound m → BanksTested m r
banks_tested sized is =
    record {
      answer = is;
      gives = λ e. sound_stands_under sized (sym is ∙ e);
      given = λ stands. is ∙ stands_sound_under stands;
    }

-- banks over a row that was tested: a row that fails fails the test, and where it passes the gates decide
pub banks_failed : {m : BankMemory} {r : Bool} → RowTested m.row r → r ≡ false → BanksTested m r
unfolding banks_sound
banks_failed {m} row no_row =
    record {
      answer = no_row ∙ rw (← row.answer, no_row);
      gives = λ e. clash e no_row;
      given = λ stands. clash (row.given (row_stands stands)) no_row;
    }

pub banks_passed : {m : BankMemory} {r ok : Bool} → RowTested m.row ok → ok ≡ true → length m.gates ≡ frames →
    r ≡ all_below (bank_sound m.gates m.row.states) Limits.banks → BanksTested m r
banks_passed {m} {r} row passes long is =
    let sized : SizedUnder m = record { row = stands_sized (row.gives passes); gates = long } in
    let whole : r ≡ banks_sound m = unfold banks_sound in rw (← row.answer, passes) is in
    banks_tested sized whole

-- one gate, from what is read of it
pub gate_tested : {gates states : List ℕ} {first frame : ℕ} {fits r : Bool} →
    fits ≡ cond (eqb (get_or gates frame off) off) (eqb (state_of states frame) absent) (leb (get_or gates frame off) closing) →
    r ≡ (eqb (get_or gates frame off) (get_or gates first off) && fits) → GateTested gates states first frame r
unfolding gate_sound
gate_tested fits is = record { is = is ∙ rw fits }
