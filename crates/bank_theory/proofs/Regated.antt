-- A row that calls give, under banks that hold nothing where they are off, is what fresh banks and calls give: the row's own
-- calls under open banks, then a close for each bank that is closing, and a close and a cut for each that is off.
use Prim.Native.Nat.{ℕ, zero, suc, ◌+◌, ◌*◌, ◌<◌, ◌≤◌}
use Rattle.std.proofs.Common.{le_refl, arith, ◌∙◌, subst, length-set, get_or-set_other, ext_get_or}
use Rattle.std.specs.Prelude.{◌≡◌, List, [], ◌∷◌, map, ltb, eqb, length, set, Ok}
use Rattle.std.proofs.Math.Path.{refl, sym, ap}
use Rattle.std.proofs.Math.Bool.{false, and-false}
use Rattle.std.proofs.lemmas.List.{length-replicate}
use Rattle.std.proofs.Math.Seq.{get_or-set_same}
use borrow.Author.Tests.{eqb-true, eqb-false, ltb-true, lt-leb}
use Rattle.rules.specs.Limits.{frames, bank_frames}
use Rattle.rules.specs.Limits
use Rattle.rules.specs.Cases.{by_cases}
use Rattle.row_theory.specs.States.{Call, absent, state_of, held_bit, held_in}
use Rattle.row_theory.specs.Row.{Row, after}
use Rattle.row_theory.specs.Runs.{row_after, Reached}
use Rattle.row_theory.specs.StateLaws.{held_bit_absent}
use Rattle.row_theory.proofs.Tidy.{Tidy, tidy}
use Rattle.row_theory.proofs.RebuildCalls.{set_back}
use Rattle.bank_theory.specs.declared.Gating.TheVariants.{Close, Cut}
use Rattle.bank_theory.specs.Banks.{Step, of_frame, of_bank, bank_of, in_bank, in_open, off, opened, closing, bank_state}
use Rattle.bank_theory.specs.Banks.{fresh_banks, gated_to, busy_from, busy_in, gating_verdict, needs_open, shut_out, shut}
use Rattle.bank_theory.specs.Banks.{banks_under}
use Rattle.bank_theory.specs.Gated.{Gated, fresh_gated, row_without, row_under, gated_then}
use Rattle.bank_theory.specs.BankRuns.{gated_after, ReachedUnder}
use Rattle.bank_theory.proofs.Leaving.{slots_untouched, states_untouched}
use Rattle.bank_theory.proofs.BankLaws.{bank_small}
use Rattle.bank_theory.proofs.Powered.{Powered, each_open}

-- a row and its banks
abbrev pub gated_by : Row → List ℕ → Gated
gated_by row banks = record { row = row; banks = banks }

-- one call more
under_then : {gated : Gated} → ReachedUnder gated → (step : Step) → ReachedUnder (gated_then gated step)
unfolding gated_after
under_then reached step =
    record { history = step ∷ reached.history; gives = ap (λ (g : Gated). gated_then g step) reached.gives }

-- B3: under open banks every call of a frame is the row's
open_through : (call : Call) → shut fresh_banks call ≡ false
unfolding shut_out in_open
open_through call =
    by_cases (ltb call.frame frames)
    (λ e. let small = ltb-true call.frame frames e in
    rw (e, each_open Limits.banks (bank_of call.frame) (bank_small call.frame small)) (and-false (needs_open call.event)))
    (λ e. rw e)

open_then : (row : Row) (call : Call) →
    gated_then (gated_by row fresh_banks) (of_frame call) ≡ gated_by (after row call) fresh_banks
unfolding gated_then row_under banks_under
open_then row call = rw (open_through call)

open_after : (calls : List Call) → gated_after (map of_frame calls) ≡ gated_by (row_after calls) fresh_banks
unfolding gated_after row_after fresh_gated
open_after [] = refl
open_after (call ∷ calls) =
    ap (λ (g : Gated). gated_then g (of_frame call)) (open_after calls) ∙ open_then (row_after calls) call

open_reached : {row : Row} → Reached row → ReachedUnder (gated_by row fresh_banks)
open_reached reached =
    let gives = reached.gives in
    record {
      history = map of_frame reached.history;
      gives = open_after reached.history ∙ (λ i. gated_by (gives i) fresh_banks);
    }

-- every bank's state is one of the three
abbrev pub KnownBanks : List ℕ → Type 0
KnownBanks banks = (bank : ℕ) → bank_state banks bank ≤ closing

abbrev pub PoweredBy : List ℕ → List ℕ → Type 0
PoweredBy states banks = Powered (record { states = states; banks = banks })

-- O8: a close of an open bank and a cut of a calm closing one are accepted, and what they make of it
module _ (states banks : List ℕ) (bank : ℕ) (small : bank < Limits.banks) where
  close_taken : bank_state banks bank ≡ opened →
      gating_verdict states banks Close bank ≡ Ok closing
  unfolding gating_verdict gated_to
  close_taken was = rw (lt-leb Limits.banks bank small, was)

  cut_taken : bank_state banks bank ≡ closing → busy_in states bank ≡ false →
      gating_verdict states banks Cut bank ≡ Ok off
  unfolding gating_verdict gated_to
  cut_taken was calm = rw (lt-leb Limits.banks bank small, was, calm)

module _ (row : Row) (banks : List ℕ) (bank : ℕ) (small : bank < Limits.banks) (long : length banks ≡ Limits.banks) where
  inside : bank < length banks
  inside = omega arith

  in_row : (frame : ℕ) → bank_of frame ≡ bank → frame < frames
  in_row frame at = omega arith

  -- B2: the last call was a close
  closed : bank_state banks bank ≡ closing →
      gated_then (gated_by row (set banks bank opened)) (of_bank Close bank) ≡ gated_by row banks
  unfolding gated_then row_under banks_under
  closed is =
      let was : bank_state (set banks bank opened) bank ≡ opened = get_or-set_same banks bank opened off inside in
      rw (close_taken row.states (set banks bank opened) bank small was)
      (ap (gated_by row) (set_back banks bank opened closing off inside is))

  -- B2: the last call was a cut, of a bank that held nothing
  module _ (nothing : (frame : ℕ) → frame < frames → bank_of frame ≡ bank → state_of row.states frame ≡ absent)
      (it : Tidy row) where
    calm : (first many : ℕ) → bank * bank_frames ≤ first → first + many ≤ bank * bank_frames + bank_frames →
        busy_from row.states first many ≡ false
    unfolding busy_from
    calm first zero low high = refl
    calm first (suc many) low high =
        let is = nothing first (omega arith) (omega arith) in
        rw is (calm (suc first) many (omega arith) (omega arith))

    untouched : row_without (in_bank bank) row ≡ row
    unfolding row_without in_bank
    untouched =
        let slots = slots_untouched (in_bank bank) row.slots
        (λ frame leaves. let here = eqb-true (bank_of frame) bank leaves in
        it.once frame (in_row frame here) ∙ ap held_bit (nothing frame (in_row frame here) here) ∙ held_bit_absent) in
        let states = states_untouched (in_bank bank) row.states it.wide
        (λ frame leaves. let here = eqb-true (bank_of frame) bank leaves in
        nothing frame (in_row frame here) here) in
        let number = it.number in
        (λ i. record { slots = slots i; states = states i; front = row.front; held = held_in (states i) })
        ∙ (λ i. record { slots = row.slots; states = row.states; front = row.front; held = sym number i })

    was_cut : bank_state banks bank ≡ off →
        gated_then (gated_by row (set banks bank closing)) (of_bank Cut bank) ≡ gated_by row banks
    unfolding gated_then row_under banks_under
    was_cut is =
        let was : bank_state (set banks bank closing) bank ≡ closing = get_or-set_same banks bank closing off inside in
        let idle : busy_in row.states bank ≡ false = calm (bank * bank_frames) bank_frames (le_refl _) (le_refl _) in
        let off-now = cut_taken row.states (set banks bank closing) bank small was idle in
        let back = set_back banks bank closing off off inside is in
        rw off-now (λ i. gated_by (untouched i) (back i))

-- what storing the state of a bank leaves
module _ (states banks : List ℕ) (bank state : ℕ) (inside : bank < length banks) where
  stored_there : (other : ℕ) → (other ≡ bank → ⊥) → bank_state (set banks bank state) other ≡ bank_state banks other
  stored_there other apart = get_or-set_other banks bank other state off apart

  pub known_stored : state ≤ closing → KnownBanks banks → KnownBanks (set banks bank state)
  known_stored low known other =
      by_cases (eqb other bank) (λ e. rw (eqb-true other bank e, get_or-set_same banks bank state off inside) low)
      (λ e. rw (stored_there other (eqb-false other bank e)) (known other))

  powered_stored : (state ≡ off → ⊥) → PoweredBy states banks → PoweredBy states (set banks bank state)
  powered_stored on powered =
      record {
        long = length-set banks bank state ∙ powered.long;
        empty = λ frame small isOff.
            by_cases (eqb (bank_of frame) bank)
            (λ e. absurd (on (rw (eqb-true (bank_of frame) bank e, get_or-set_same banks bank state off inside) at isOff)))
            (λ e. powered.empty frame small (sym (stored_there (bank_of frame) (eqb-false (bank_of frame) bank e)) ∙ isOff));
      }

-- bank by bank; from this one on all are open
abbrev OpenFrom : ℕ → List ℕ → Type 0
OpenFrom n banks = (bank : ℕ) → n ≤ bank → bank < Limits.banks → bank_state banks bank ≡ opened

all_open : {banks : List ℕ} → length banks ≡ Limits.banks → OpenFrom 0 banks → fresh_banks ≡ banks
all_open {banks} long opens =
    ext_get_or off fresh_banks banks (length-replicate Limits.banks opened ∙ sym long)
    (λ bank inside. let small : bank < Limits.banks = omega (arith, length-replicate Limits.banks opened) in
    each_open Limits.banks bank small ∙ sym (opens bank (omega arith) small))

opened_too : (n : ℕ) (banks : List ℕ) → n < length banks → OpenFrom (suc n) banks → OpenFrom n (set banks n opened)
opened_too n banks inside opens bank from small =
    by_cases (eqb bank n) (λ e. rw (eqb-true bank n e) (get_or-set_same banks n opened off inside))
    (λ e. let ne : bank ≡ n → ⊥ = eqb-false bank n e in
    get_or-set_other banks n bank opened off ne ∙ opens bank (omega arith) small)

open_kept : (n state : ℕ) (banks : List ℕ) → OpenFrom (suc n) banks → OpenFrom (suc n) (set banks n state)
open_kept n state banks opens bank from small =
    get_or-set_other banks n bank state off (λ e. omega arith) ∙ opens bank from small

module _ {row : Row} (reached : Reached row) where
  -- closing the bank at hand, once the others are done
  close_one : (n : ℕ) (banks : List ℕ) → n < Limits.banks → length banks ≡ Limits.banks → bank_state banks n ≡ closing →
      ReachedUnder (gated_by row (set banks n opened)) → ReachedUnder (gated_by row banks)
  close_one n banks small long is before =
      subst ReachedUnder (closed row banks n small long is) (under_then before (of_bank Close n))

  cut_one : (n : ℕ) (banks : List ℕ) → n < Limits.banks → PoweredBy row.states banks → bank_state banks n ≡ off →
      ReachedUnder (gated_by row (set banks n closing)) → ReachedUnder (gated_by row banks)
  cut_one n banks small powered is before =
      subst ReachedUnder
      (was_cut row banks n small powered.long
      (λ frame low at. powered.empty frame low (rw at is)) (tidy reached) is)
      (under_then before (of_bank Cut n))

  regated_from : (n : ℕ) (banks : List ℕ) → n ≤ Limits.banks → PoweredBy row.states banks → KnownBanks banks →
      OpenFrom n banks → ReachedUnder (gated_by row banks)
  regated_from zero banks most powered known opens =
      subst (λ (b : List ℕ). ReachedUnder (gated_by row b)) (all_open powered.long opens) (open_reached reached)
  regated_from (suc n) banks most powered known opens =
      let small : n < Limits.banks = omega arith in
      let inside : n < length banks = omega (arith, powered.long) in
      by_cases (eqb (bank_state banks n) opened)
      (λ e. regated_from n banks (omega arith) powered known
      (λ bank from low. by_cases (eqb bank n) (λ same. rw (eqb-true bank n same) (eqb-true (bank_state banks n) opened e))
      (λ other. let ne : bank ≡ n → ⊥ = eqb-false bank n other in opens bank (omega arith) low)))
      (λ shut. let notOpen : bank_state banks n ≡ opened → ⊥ = eqb-false (bank_state banks n) opened shut in
      by_cases (eqb (bank_state banks n) closing)
      (λ e. close_one n banks small powered.long (eqb-true (bank_state banks n) closing e)
      (regated_from n (set banks n opened) (omega arith)
      (powered_stored row.states banks n opened inside (λ q. omega arith) powered)
      (known_stored row.states banks n opened inside (omega arith) known) (opened_too n banks inside opens)))
      (λ other. let notClosing : bank_state banks n ≡ closing → ⊥ = eqb-false (bank_state banks n) closing other in
      let between = set banks n closing in
      let inside' : n < length between = omega (arith, length-set banks n closing) in
      let powered' = powered_stored row.states banks n closing inside (λ q. omega arith) powered in
      let known' = known_stored row.states banks n closing inside (omega arith) known in
      cut_one n banks small powered (omega (arith, known n))
      (close_one n between small powered'.long (get_or-set_same banks n closing off inside)
      (regated_from n (set between n opened) (omega arith)
      (powered_stored row.states between n opened inside' (λ q. omega arith) powered')
      (known_stored row.states between n opened inside' (omega arith) known')
      (opened_too n between inside' (open_kept n closing banks opens))))))

  -- B6: and that is all that is asked of banks
  pub regated : {banks : List ℕ} → PoweredBy row.states banks → KnownBanks banks → ReachedUnder (gated_by row banks)
  regated {banks} powered known =
      regated_from Limits.banks banks (le_refl Limits.banks) powered known (λ bank from small. absurd (omega arith))
