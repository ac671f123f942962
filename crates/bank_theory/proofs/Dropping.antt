-- Drops as frames leaving (docs/RULES.md, B2): dropping frames one by one, in any row that calls give, is their leaving together
-- if none of them is busy.
use Rattle.std.specs.Prelude.{ℕ, zero, suc, ◌+◌, ◌<◌, ◌≤◌, ◌≡◌, Bool, true, false, ◌||◌, List, ◌∷◌, ◌++◌, leb, ltb, eqb, length}
use Rattle.std.specs.Prelude.{Ok, Err}
use Rattle.std.proofs.Common.{arith, ◌∙◌, ap}
use Rattle.std.proofs.Math.Path.{sym}
use borrow.Author.Tests.{eqb-true, eqb-false, lt-ltb, le-ltb, le-leb, lt-leb, leb-true, ltb-true, ltb-false}
use Rattle.rules.specs.Limits.{frames}
use Rattle.rules.specs.declared.refusal.Refusal.TheVariants.{NotHeld}
use Rattle.rules.specs.Lists.{times}
use Rattle.rules.specs.Cases.{by_cases, clash}
use Rattle.row_theory.specs.States.{Call, absent, idle, state_of, held_bit, held_in, table_at, verdict_of, accepts, states_then}
use Rattle.row_theory.specs.Slots.{vacated, slots_then, front_then}
use Rattle.row_theory.specs.Row.{Row, moved}
use Rattle.row_theory.specs.Runs.{row_after}
use Rattle.row_theory.specs.Promise.{asked}
use Rattle.row_theory.specs.StateLaws.{held_bit_small}
use Rattle.row_theory.proofs.GoodStates.{good_after}
use Rattle.row_theory.proofs.SoundRow.{sound_after, after_accepted, after_refused}
use Rattle.row_theory.proofs.Theorems.{slots_hold}
use Rattle.row_theory.specs.declared.Event.TheVariants.{Drop}
use Rattle.bank_theory.specs.Gated.{row_without}
use Rattle.bank_theory.specs.BankRuns.{drops}
use Rattle.bank_theory.specs.BankLending.{within}
use Rattle.bank_theory.proofs.Leaving.{only, state_without, without_same, without_twice, slots_untouched, emptied_once}
use Rattle.bank_theory.proofs.Leaving.{state_gone, states_untouched}

-- a drop of an idle frame is accepted, and one of an absent frame is refused
drop_idle : (states : List ℕ) (frame : ℕ) → frame < frames → state_of states frame ≡ idle →
    verdict_of states (asked Drop frame) ≡ Ok absent
unfolding verdict_of table_at
drop_idle states frame small isIdle = rw (lt-leb frames frame small, isIdle)

drop_absent : (states : List ℕ) (frame : ℕ) → frame < frames → state_of states frame ≡ absent →
    verdict_of states (asked Drop frame) ≡ Err NotHeld
unfolding verdict_of table_at
drop_absent states frame small gone = rw (lt-leb frames frame small, gone)

-- what a history gives, in the words of the row's own states
module _ (history : List Call) where
  abbrev row : Row
  row = row_after history

  pub states_long : length row.states ≡ frames
  states_long = ap length (sound_after history).same_states ∙ (good_after history).long

  stands : (frame : ℕ) → frame < frames → times frame row.slots ≡ held_bit (state_of row.states frame)
  stands frame small = rw (sound_after history).same_states (slots_hold history frame small)

  held_is : row.held ≡ held_in row.states
  held_is = rw (sound_after history).same_states (sound_after history).number

  -- frames that are absent already: their leaving changes nothing
  absent_leaves : (leaves : ℕ → Bool) → ((frame : ℕ) → leaves frame ≡ true → frame < frames) →
      ((frame : ℕ) → leaves frame ≡ true → state_of row.states frame ≡ absent) → row_without leaves row ≡ row
  unfolding row_without held_bit
  absent_leaves leaves small gone =
      let slots = slots_untouched leaves row.slots
      (λ frame e. stands frame (small frame e) ∙ rw (gone frame e)) in
      let states = states_untouched leaves row.states states_long gone in
      (λ i. record { slots = slots i; states = states i; front = row.front; held = held_in (states i) }) ∙
      sym (λ i. record { slots = row.slots; states = row.states; front = row.front; held = held_is i })

  -- a drop is its frame leaving
  drop_leaves : (frame : ℕ) → frame < frames → state_of row.states frame ≤ idle →
      row_after (asked Drop frame ∷ history) ≡ row_without (only frame) row
  unfolding row_after row_without moved slots_then vacated front_then states_then accepts
  drop_leaves frame small low =
      by_cases (eqb (state_of row.states frame) idle)
      (λ e. let isIdle = eqb-true (state_of row.states frame) idle e in
      let verdict = drop_idle row.states frame small isIdle in
      let slots = emptied_once frame row.slots (rw (stands frame small) (held_bit_small (state_of row.states frame))) in
      let states = state_gone row.states frame states_long small in
      after_accepted row (asked Drop frame) (rw verdict) ∙
      rw verdict
      (λ i. record { slots = slots i; states = states i; front = row.front; held = held_in (states i) }))
      (λ e. let gone : state_of row.states frame ≡ absent =
      omega (arith, eqb-false (state_of row.states frame) idle e) in
      let verdict = drop_absent row.states frame small gone in
      after_refused row (asked Drop frame) (rw verdict) ∙
      sym (absent_leaves (only frame)
      (λ other t. rw (eqb-true other frame t) small)
      (λ other t. rw (eqb-true other frame t) gone)))

-- the frames of a range
pub within_none : (first frame : ℕ) → within first 0 frame ≡ false
unfolding within
within_none first frame =
    by_cases (leb first frame) (λ e. rw (e, le-ltb frame (first + 0) (omega (arith, leb-true first frame e)))) (λ e. rw e)

pub within_more : (first many frame : ℕ) → within first (suc many) frame ≡ (within first many frame || only (first + many) frame)
unfolding within
within_more first many frame =
    by_cases (eqb frame (first + many))
    (λ e. let same = eqb-true frame (first + many) e in
    rw (
      e,
      le-leb first frame (omega arith),
      lt-ltb frame (first + suc many) (omega arith),
      le-ltb frame (first + many) (omega arith),
    ))
    (λ e. let other : frame ≡ first + many → ⊥ = eqb-false frame (first + many) e in
    by_cases (ltb frame (first + many))
    (λ t. let small = ltb-true frame (first + many) t in
    rw (e, t, lt-ltb frame (first + suc many) (omega arith))
    (by_cases (leb first frame) (λ u. rw u) (λ u. rw u)))
    (λ t. let big = ltb-false frame (first + many) t in
    rw (e, t, le-ltb frame (first + suc many) (omega arith))
    (by_cases (leb first frame) (λ u. rw u) (λ u. rw u))))

-- a frame outside the range has the state that it had
still_there : (first many : ℕ) (history : List Call) (frame : ℕ) → frame < frames → first + many ≤ frame → {row : Row} →
    row ≡ row_without (within first many) (row_after history) →
    state_of row.states frame ≡ state_of (row_after history).states frame
unfolding row_without within
still_there first many history frame small past e =
    ap (λ (r : Row). state_of r.states frame) e ∙ state_without (within first many) (row_after history).states frame small ∙
    rw (le-ltb frame (first + many) past)
    (by_cases (leb first frame) (λ u. rw u) (λ u. rw u))

-- B2: dropping so many frames from a number on, none of them busy, is their leaving together
pub drops_leave : (first many : ℕ) (history : List Call) → first + many ≤ frames →
    ((frame : ℕ) → first ≤ frame → frame < first + many → state_of (row_after history).states frame ≤ idle) →
    row_after (drops first many ++ history) ≡ row_without (within first many) (row_after history)
unfolding drops
drops_leave first zero history room calm =
    sym (absent_leaves history (within first 0)
    (λ frame e. clash e (within_none first frame)) (λ frame e. clash e (within_none first frame)))
drops_leave first (suc many) history room calm =
    let before = drops first many ++ history in
    let row = row_after history in
    let last = first + many in
    let earlier : row_after before ≡ row_without (within first many) row =
    drops_leave first many history (omega arith) (λ frame low high. calm frame low (omega arith)) in
    let small : last < frames = omega arith in
    let still : state_of (row_after before).states last ≡ state_of row.states last =
    still_there first many history last small (omega arith) earlier in
    drop_leaves before last small (omega (arith, calm last (omega arith) (omega arith))) ∙
    ap (row_without (only last)) earlier ∙
    without_twice (within first many) (only last) row ∙
    without_same (λ frame. within first many frame || only last frame) (within first (suc many)) row
    (λ frame. sym (within_more first many frame))
