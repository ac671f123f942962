-- What a put, a start and a drop that are accepted make of a row, as equations of its parts (docs/RULES.md, W2, W4, W6).
use Prim.Native.Nat.{ℕ, suc, ◌-◌, ◌<◌}
use native.Mathlib.Omega.{arith}
use Rattle.std.specs.Prelude.{◌≡◌, true, List, ◌∷◌, length, get_or, Ok}
use Rattle.std.proofs.Common.{sym, ◌∙◌, ap, length-set, get_or-set_same, get_or-set_other, ext_get_or}
use Rattle.std.proofs.Math.Bool.{false}
use Rattle.std.proofs.Math.Dec.{eqb}
use Rattle.std.proofs.Math.ListN.{set}
use borrow.Author.Tests.{ne_eqb, eqb-true, eqb-false, lt-leb}
use Rattle.rules.specs.Limits.{frames}
use Rattle.rules.specs.Limits
use Rattle.rules.specs.Cases.{by_cases}
use Rattle.row_theory.specs.States.{Call, absent, idle, busy, table_at, state_of, held_in, verdict_of, accepts}
use Rattle.row_theory.specs.States.{states_then}
use Rattle.row_theory.specs.Slots.{emptied, roomy_slots, roomy_front, vacated, slots_then, front_then}
use Rattle.row_theory.specs.Row.{Row, moved, after}
use Rattle.row_theory.specs.Runs.{row_after, Reached}
use Rattle.row_theory.specs.Promise.{row_with, asked}
use Rattle.row_theory.proofs.SoundRow.{after_accepted}
use Rattle.row_theory.specs.declared.Event.{Event}
use Rattle.row_theory.specs.declared.Event.TheVariants.{Put, Start, Drop}

-- a store and its undoing
pub set_back : (l : List ℕ) (k v w d : ℕ) → k < length l → get_or l k d ≡ w → set (set l k v) k w ≡ l
set_back l k v w d inside there =
    ext_get_or d (set (set l k v) k w) l (simp length-set)
    (λ i small. by_cases (eqb i k)
    (λ e. rw (eqb-true i k e, get_or-set_same (set l k v) k w d (rw (length-set l k v) inside)) (sym there))
    (λ e. let ne : i ≡ k → ⊥ = eqb-false i k e in
    rw (get_or-set_other (set l k v) k i w d ne, get_or-set_other l k i v d ne)))

-- one call more
pub reached_then : {row : Row} → Reached row → (call : Call) → Reached (after row call)
unfolding row_after
reached_then reached call =
    record { history = call ∷ reached.history; gives = ap (λ (r : Row). after r call) reached.gives }

-- a call whose verdict is a state is accepted, and its frame gets that state
pub record Takes (states : List ℕ) (event : Event) (frame next : ℕ) : Type 0 where
  pub ok : accepts states (asked event frame) ≡ true
  pub then : states_then states (asked event frame) ≡ set states frame next

takes : (states : List ℕ) (event : Event) (frame next : ℕ) → verdict_of states (asked event frame) ≡ Ok next →
    Takes states event frame next
unfolding accepts states_then
takes states event frame next is = record { ok = rw is; then = rw is }

module _ (states : List ℕ) (frame : ℕ) (small : frame < frames) where
  pub put_takes : state_of states frame ≡ absent → held_in states < Limits.held → Takes states Put frame idle
  put_takes is room =
      takes states Put frame idle
      (unfold verdict_of table_at in rw (lt-leb frames frame small, is, lt-leb Limits.held (held_in states) room))

  pub start_takes : state_of states frame ≡ idle → Takes states Start frame busy
  start_takes is = takes states Start frame busy (unfold verdict_of table_at in rw (lt-leb frames frame small, is))

  pub drop_takes : state_of states frame ≡ idle → Takes states Drop frame absent
  drop_takes is = takes states Drop frame absent (unfold verdict_of table_at in rw (lt-leb frames frame small, is))

-- what each of the three calls makes of a row
module _ (slots states : List ℕ) (front held frame : ℕ) where
  pub put_gives : Takes states Put frame idle →
      after (row_with slots states (suc front) held) (asked Put frame)
      ≡ row_with (set slots front frame) (set states frame idle) front (held_in (set states frame idle))
  unfolding moved slots_then front_then vacated roomy_slots roomy_front
  put_gives t =
      let fallen : suc front - 1 ≡ front = omega arith in
      let above : eqb (suc front) 0 ≡ false = ne_eqb (suc front) 0 (λ e. omega arith) in
      let top : front_then Put slots (suc front) frame ≡ front = rw (above, fallen) in
      let row : slots_then Put slots (suc front) frame ≡ set slots front frame = rw (above, fallen) in
      after_accepted (row_with slots states (suc front) held) (asked Put frame) t.ok
      ∙ (λ i. row_with (row i) (t.then i) (top i) (held_in (t.then i)))

  pub start_gives : Takes states Start frame busy →
      after (row_with slots states front held) (asked Start frame)
      ≡ row_with slots (set states frame busy) front (held_in (set states frame busy))
  unfolding moved slots_then front_then vacated
  start_gives t =
      after_accepted (row_with slots states front held) (asked Start frame) t.ok ∙ rw t.then

  pub drop_gives : Takes states Drop frame absent →
      after (row_with slots states front held) (asked Drop frame)
      ≡ row_with (emptied frame slots) (set states frame absent) front (held_in (set states frame absent))
  unfolding moved slots_then front_then vacated
  drop_gives t =
      after_accepted (row_with slots states front held) (asked Drop frame) t.ok ∙ rw t.then
