-- What each verdict says of the row's answer and of the row after the call, and the ways to a verdict.
use Rattle.std.specs.Prelude.{ℕ, ◌<◌, ◌≤◌, ◌≡◌, true, false, List, eqb, set, Ok, Err}
use Rattle.std.proofs.Common.{sym, ◌∙◌}
use borrow.Author.Tests.{eq-eqb, ne_eqb, lt-leb, le-leb}
use Rattle.rules.specs.Limits.{frames, held}
use Rattle.rules.specs.declared.refusal.Refusal.{Refusal}
use Rattle.rules.specs.declared.refusal.Refusal.TheVariants.{BadFrame, RowFull}
use Rattle.row_theory.specs.States.{Call, absent, busy, table_at, state_of, held_in, is_put, verdict_of, accepts, states_then}
use Rattle.row_theory.specs.Slots.{slots_then, front_then, examined_then}
use Rattle.row_theory.specs.Row.{Row, moved, after, reply_of}
use Rattle.row_theory.specs.Promise.{row_with, asked}
use Rattle.row_theory.proofs.SoundRow.{ready, after_accepted, after_refused}
use Rattle.row_theory.specs.StepLaws.{Ready}
use Rattle.row_theory.proofs.PromiseLaws.{Ordered}
use Rattle.row_theory.specs.StateLaws.{put_absent}
use Rattle.row_theory.specs.declared.Event.{Event}

-- what a refusal says
pub record Refusing (row : Row) (call : Call) (r : Refusal) : Type 0 where
  pub reply : reply_of row call ≡ Err r
  pub same : after row call ≡ row

pub refused_verdict : (row : Row) (call : Call) {r : Refusal} → verdict_of row.states call ≡ Err r → Refusing row call r
unfolding accepts reply_of
refused_verdict row call is =
    let no : accepts row.states call ≡ false = rw is in
    record { reply = rw is; same = after_refused row call no }

-- what an accepted call makes of the row, in the steps of the code
abbrev pub row_then : Row → Event → ℕ → ℕ → Row
row_then row event frame next =
    row_with (slots_then event row.slots row.front frame) (set row.states frame next)
    (front_then event row.slots row.front frame) (held_in (set row.states frame next))

-- what a next state says of a row that calls give
pub record Accepting (row : Row) (event : Event) (frame next : ℕ) : Type 0 where
  pub finds : Ready event row.slots row.front frame
  pub reply : reply_of row (asked event frame) ≡ Ok (examined_then event row.front)
  pub leaves : after row (asked event frame) ≡ row_then row event frame next

moved_is : (row : Row) (event : Event) (frame : ℕ) {next : ℕ} → verdict_of row.states (asked event frame) ≡ Ok next →
    moved row (asked event frame) ≡ row_then row event frame next
unfolding moved states_then
moved_is row event frame is = rw is

reply_accepted : (row : Row) (call : Call) {next : ℕ} → verdict_of row.states call ≡ Ok next →
    reply_of row call ≡ Ok (examined_then call.event row.front)
unfolding reply_of
reply_accepted row call is = rw is

pub accepted_verdict : (row : Row) (event : Event) (frame : ℕ) {next : ℕ} → Ordered row →
    verdict_of row.states (asked event frame) ≡ Ok next → Accepting row event frame next
accepted_verdict row event frame order is =
    let call = asked event frame in
    let ok : accepts row.states call ≡ true = unfold accepts in rw is in
    record {
      finds = ready call order.sound order.good ok;
      reply = reply_accepted row call is;
      leaves = after_accepted row call ok ∙ moved_is row event frame is;
    }

-- the ways through the order of refusals
module _ (states : List ℕ) (event : Event) (frame : ℕ) where
  pub verdict_past : frames ≤ frame → Err BadFrame ≡ verdict_of states (asked event frame)
  unfolding verdict_of
  verdict_past past = rw (le-leb frames frame past)

  pub verdict_table : {r : Refusal} → frame < frames → Err r ≡ table_at (state_of states frame) event →
      Err r ≡ verdict_of states (asked event frame)
  unfolding verdict_of
  verdict_table small is = rw (lt-leb frames frame small, ← is)

  -- the table lets the event through; only a put may still find no room
  module _ (small : frame < frames) (known : state_of states frame ≤ busy) {next : ℕ}
      (is : Ok next ≡ table_at (state_of states frame) event) where
    put_if : is_put event ≡ eqb (state_of states frame) absent
    put_if = put_absent event (state_of states frame) known (sym is)

    pub verdict_held : (state_of states frame ≡ absent → ⊥) → Ok next ≡ verdict_of states (asked event frame)
    unfolding verdict_of
    verdict_held held = rw (lt-leb frames frame small, ← is, put_if, ne_eqb (state_of states frame) absent held)

    pub verdict_full : {n : ℕ} → state_of states frame ≡ absent → n ≡ held_in states → held ≤ n →
        Err RowFull ≡ verdict_of states (asked event frame)
    unfolding verdict_of
    verdict_full {n} gone number full =
        rw (
          lt-leb frames frame small,
          ← is,
          put_if,
          eq-eqb (state_of states frame) absent gone,
          ← number,
          le-leb held n full,
        )

    pub verdict_next : {n : ℕ} → state_of states frame ≡ absent → n ≡ held_in states → n < held →
        Ok next ≡ verdict_of states (asked event frame)
    unfolding verdict_of
    verdict_next {n} gone number room =
        rw (
          lt-leb frames frame small,
          ← is,
          put_if,
          eq-eqb (state_of states frame) absent gone,
          ← number,
          lt-leb held n room,
        )

-- the ways through the order of refusals, one for each return of the code's verdict
pub ruleset verdicts = (verdict_past, verdict_table, verdict_held, verdict_full, verdict_next)
