-- The power of banks over any calls (docs/RULES.md, B6): no frame of an off bank is held. A put needs an open bank, every
-- other call a frame that is held already, and a bank becomes off only by a cut, which takes its frames out.
use Rattle.std.specs.Prelude.{ℕ, zero, suc, ◌<◌, ◌≡◌, false, cond, List, [], ◌∷◌, eqb, length, get_or, set, replicate, Ok}
use Rattle.std.proofs.Common.{not-suc-le-zero, le_of_suc-le-suc, arith, sym, ◌∙◌, subst, length-set, get_or-set_same}
use Rattle.std.proofs.Common.{get_or-set_other}
use Rattle.std.proofs.Math.Path.{refl, ap}
use Rattle.std.proofs.Math.Bool.{true, and-true, and-false}
use borrow.Author.Tests.{eqb-true, eqb-false, eq-eqb, lt-ltb}
use Rattle.rules.specs.Limits.{frames}
use Rattle.rules.specs.Limits
use Rattle.rules.specs.Cases.{by_cases, clash}
use Rattle.row_theory.specs.States.{Call, absent, state_of, is_put, accepts}
use Rattle.row_theory.specs.StateLaws.{accepted, put_absent}
use Rattle.row_theory.proofs.GoodStates.{GoodStates, good_after, states_refused, state_other}
use Rattle.row_theory.specs.declared.Event.{Event}
use Rattle.row_theory.specs.declared.Event.TheVariants.{Put, Touch, Start, End, Drop}
use Rattle.bank_theory.specs.declared.Gating.{Gating}
use Rattle.bank_theory.specs.Banks.{Step, of_frame, of_bank, bank_of, in_bank, in_open, off, opened, bank_state}
use Rattle.bank_theory.specs.Banks.{is_cut, takes, needs_open, shut_out, shut, states_without, states_under, banks_under}
use Rattle.bank_theory.specs.Banks.{fresh_banks}
use Rattle.bank_theory.specs.BankHistory.{Seen, seen_then, seen_after}
use Rattle.bank_theory.specs.BankRuns.{row_calls}
use Rattle.bank_theory.proofs.Leaving.{state_without}
use Rattle.bank_theory.proofs.BankLaws.{bank_small, Taken, taken, refused, only_cut}
use Rattle.bank_theory.proofs.UnderBanks.{states_under_law}

-- a state for each bank, and no frame of an off bank is held
pub record Powered (seen : Seen) : Type 0 where
  pub long : length seen.banks ≡ Limits.banks
  pub empty : (frame : ℕ) → frame < frames → bank_state seen.banks (bank_of frame) ≡ off → state_of seen.states frame ≡ absent

put_needs : (event : Event) → is_put event ≡ true → needs_open event ≡ true
put_needs Put e = refl
put_needs Touch e = e
put_needs Start e = refl
put_needs End e = e
put_needs Drop e = e

-- a frame call in an off bank changes nothing of an absent frame: a put is shut out, and the table refuses the rest
module _ (states banks : List ℕ) (call : Call) (good : GoodStates states) (through : shut banks call ≡ false)
    (ok : accepts states call ≡ true) where
  not_there : call.frame < frames → bank_state banks (bank_of call.frame) ≡ off → state_of states call.frame ≡ absent → ⊥
  unfolding shut_out in_open
  not_there small isOff gone =
      let state = state_of states call.frame in
      let put : is_put call.event ≡ true =
      put_absent call.event state (good.known call.frame) (accepted states call ok).allowed ∙ eq-eqb state absent gone in
      clash refl (rw (lt-ltb call.frame frames small, put_needs call.event put, isOff) at through)

powered_frame : (seen : Seen) (call : Call) → GoodStates seen.states → Powered seen → Powered (seen_then seen (of_frame call))
unfolding seen_then states_under banks_under
powered_frame seen call good powered =
    by_cases (shut seen.banks call)
    (λ e. rw e powered)
    (λ through. rw through
    (by_cases (accepts seen.states call)
    (λ ok. record {
      long = powered.long;
      empty = λ frame small isOff. by_cases (eqb frame call.frame)
          (λ e. let same = eqb-true frame call.frame e in
          absurd (not_there seen.states seen.banks call good through ok (rw (← same) small) (rw (← same) isOff)
          (rw (← same) (powered.empty frame small isOff))))
          (λ e. state_other seen.states call good ok frame (eqb-false frame call.frame e) ∙
          powered.empty frame small isOff);
    })
    (λ refused. rw (states_refused seen.states call refused) powered)))

-- an accepted bank call
module _ (seen : Seen) (gating : Gating) (bank : ℕ) (powered : Powered seen)
    (ok : takes seen.states seen.banks gating bank ≡ true) where
  abbrev took : Taken seen.states seen.banks gating bank
  took = taken seen.states seen.banks gating bank ok

  abbrev next : ℕ
  next = took.state

  inside : bank < length seen.banks
  inside = omega (arith, took.small, powered.long)

  here : bank_state (set seen.banks bank next) bank ≡ next
  here = get_or-set_same seen.banks bank next off inside

  there : (other : ℕ) → (other ≡ bank → ⊥) → bank_state (set seen.banks bank next) other ≡ bank_state seen.banks other
  there other apart = get_or-set_other seen.banks bank other next off apart

  -- the states after it
  abbrev then_states : List ℕ
  then_states = cond (is_cut gating) (states_without (in_bank bank) seen.states) seen.states

  stays_out : (frame : ℕ) → frame < frames → state_of seen.states frame ≡ absent → state_of then_states frame ≡ absent
  stays_out frame small gone =
      by_cases (is_cut gating)
      (λ cut. rw (cut, state_without (in_bank bank) seen.states frame small, gone)
      (by_cases (in_bank bank frame) (λ e. rw e) (λ e. rw e)))
      (λ kept. rw kept gone)

  leaves : (frame : ℕ) → frame < frames → bank_of frame ≡ bank → next ≡ off → state_of then_states frame ≡ absent
  unfolding in_bank
  leaves frame small at isOff =
      let cut : is_cut gating ≡ true = ap is_cut (only_cut gating (bank_state seen.banks bank) (took.allowed ∙ ap Ok isOff)).0 in
      rw (cut, state_without (in_bank bank) seen.states frame small, eq-eqb (bank_of frame) bank at)

  switched_powered : Powered (record { states = then_states; banks = set seen.banks bank next })
  switched_powered =
      record {
        long = length-set seen.banks bank next ∙ powered.long;
        empty = λ frame small isOff. by_cases (eqb (bank_of frame) bank)
            (λ e. let at = eqb-true (bank_of frame) bank e in
            leaves frame small at (sym here ∙ sym (ap (bank_state (set seen.banks bank next)) at) ∙ isOff))
            (λ e. stays_out frame small
            (powered.empty frame small (sym (there (bank_of frame) (eqb-false (bank_of frame) bank e)) ∙ isOff)));
      }

powered_bank : (seen : Seen) (gating : Gating) (bank : ℕ) → Powered seen → Powered (seen_then seen (of_bank gating bank))
unfolding seen_then states_under banks_under
powered_bank seen gating bank powered =
    by_cases (takes seen.states seen.banks gating bank)
    (λ ok. rw ((taken seen.states seen.banks gating bank ok).verdict, and-true (is_cut gating))
    (switched_powered seen gating bank powered ok))
    (λ no. rw ((refused seen.states seen.banks gating bank no).verdict, and-false (is_cut gating)) powered)

-- the states of frames are those of a row alone
pub good_under : (history : List Step) → GoodStates (seen_after history).states
good_under history = subst GoodStates (states_under_law history) (good_after (row_calls history))

-- B1: fresh banks are open
pub each_open : (n bank : ℕ) → bank < n → get_or (replicate n opened) bank off ≡ opened
each_open zero bank small = absurd (not-suc-le-zero small)
each_open (suc n) zero small = refl
each_open (suc n) (suc bank) small = each_open n bank (le_of_suc-le-suc small)

fresh_open : (frame : ℕ) → frame < frames → bank_state fresh_banks (bank_of frame) ≡ off → ⊥
fresh_open frame small isOff = omega (arith, each_open Limits.banks (bank_of frame) (bank_small frame small))

-- B6: over any calls
pub powered_after : (history : List Step) → Powered (seen_after history)
unfolding seen_after
powered_after [] = record { long = refl; empty = λ frame small isOff. absurd (fresh_open frame small isOff) }
powered_after (of_frame call ∷ history) = powered_frame (seen_after history) call (good_under history) (powered_after history)
powered_after (of_bank gating bank ∷ history) = powered_bank (seen_after history) gating bank (powered_after history)
