-- What a row is without a word of its history: the slots hold each held frame once and no other, none below the front, and the
-- numbers agree. Whatever calls give is so.
use Rattle.std.specs.Prelude.{ℕ, zero, suc, ◌+◌, ◌-◌, ◌<◌, ◌≤◌, ◌≡◌, refl, true, false, List, [], ◌∷◌, ◌++◌, ltb, eqb, length}
use Rattle.std.specs.Prelude.{get_or, set, replicate}
use Rattle.std.proofs.Math.Nat.{le_refl}
use native.Mathlib.Omega.{arith}
use Rattle.std.proofs.Common.{sym, ◌∙◌, subst, get_or-set_same, ltb-true, ltb-false}
use Rattle.rules.specs.Limits.{frames}
use Rattle.rules.specs.Limits
use Rattle.rules.specs.Cases.{by_cases, clash}
use Rattle.rules.specs.Lists.{times}
use Rattle.row_theory.specs.States.{Call, busy, state_of, held_bit, held_in, accepts, moves, states_then}
use Rattle.row_theory.specs.Slots.{empty, Clear, frames_in, emptied, squeezed_front, squeezed, roomy_slots, roomy_front}
use Rattle.row_theory.specs.Slots.{vacated}
use Rattle.row_theory.specs.Slots.{slots_then, front_then}
use Rattle.row_theory.specs.SlotLaws.{frames_in_frame, frames_in_empty, times_frames_in}
use Rattle.row_theory.specs.Row.{Row, empty_row, moved, after}
use Rattle.row_theory.specs.Runs.{row_after, Reached}
use Rattle.row_theory.specs.Holding.{squeeze_holding, vacate_holding}
use Rattle.row_theory.specs.StateLaws.{bit_before, bit_later}
use Rattle.row_theory.proofs.GoodStates.{held_then}
use Rattle.row_theory.proofs.SoundRow.{after_accepted, after_refused, ready}
use Rattle.row_theory.specs.RecentLaws.{fewer, length_fewer}
use Rattle.row_theory.specs.StepLaws.{Ready}
use Rattle.row_theory.proofs.PromiseLaws.{Ordered, ordered}
use Rattle.row_theory.specs.declared.Event.{Event}
use Rattle.row_theory.specs.declared.Event.TheVariants.{Put, Touch, Start, End, Drop}

-- every slot reads a frame or "empty"
abbrev pub KnownSlots : List ℕ → Type 0
KnownSlots slots = (slot : ℕ) → get_or slots slot empty ≤ empty

-- fewer than the most are held where the slot at the front is empty
abbrev pub Roomy : Row → Type 0
Roomy row = get_or row.slots row.front empty ≡ empty → row.held < Limits.held

pub record Tidy (row : Row) : Type 0 where
  pub long : length row.slots ≡ Limits.slots
  pub wide : length row.states ≡ frames
  pub inside : row.front ≤ Limits.slots
  pub clear : Clear row.front row.slots
  pub slots : KnownSlots row.slots
  pub states : (frame : ℕ) → state_of row.states frame ≤ busy
  pub once : (frame : ℕ) → frame < frames → times frame row.slots ≡ held_bit (state_of row.states frame)
  pub number : row.held ≡ held_in row.states
  pub few : row.held ≤ Limits.held
  pub roomy : Roomy row

-- what each step leaves of that
known_set : (row : List ℕ) (k frame : ℕ) → frame ≤ empty → KnownSlots row → KnownSlots (set row k frame)
known_set [] k frame small known slot = known slot
known_set (x ∷ row) zero frame small known zero = small
known_set (x ∷ row) zero frame small known (suc slot) = known (suc slot)
known_set (x ∷ row) (suc k) frame small known zero = known 0
known_set (x ∷ row) (suc k) frame small known (suc slot) = known_set row k frame small (λ i. known (suc i)) slot

known_emptied : (frame : ℕ) (row : List ℕ) → KnownSlots row → KnownSlots (emptied frame row)
unfolding emptied
known_emptied frame [] known slot = known slot
known_emptied frame (x ∷ row) known zero =
    by_cases (eqb x frame) (λ e. rw e (le_refl empty)) (λ e. rw e (known 0))
known_emptied frame (x ∷ row) known (suc slot) =
    by_cases (eqb x frame) (λ e. rw e (known (suc slot))) (λ e. rw e (known_emptied frame row (λ i. known (suc i)) slot))

known_cons : (x : ℕ) (row : List ℕ) → x ≤ empty → KnownSlots row → KnownSlots (x ∷ row)
known_cons x row small known zero = small
known_cons x row small known (suc slot) = known slot

known_frames : (row : List ℕ) → KnownSlots (frames_in row)
known_frames [] = unfold frames_in in λ slot. le_refl empty
known_frames (x ∷ row) =
    by_cases (ltb x frames)
    (λ e. let small : x < frames = ltb-true x frames e in
    rw (frames_in_frame x row small) (known_cons x (frames_in row) (omega arith) (known_frames row)))
    (λ e. rw (frames_in_empty x row (ltb-false x frames e)) (known_frames row))

known_behind : (n : ℕ) (row : List ℕ) → KnownSlots row → KnownSlots (replicate n empty ++ row)
known_behind zero row known slot = known slot
known_behind (suc n) row known zero = le_refl empty
known_behind (suc n) row known (suc slot) = known_behind n row known slot

known_roomy : (row : List ℕ) (front : ℕ) → KnownSlots row → KnownSlots (roomy_slots row front)
unfolding roomy_slots squeezed
known_roomy row front known =
    by_cases (eqb front 0) (λ e. rw e (known_behind (squeezed_front row) (frames_in row) (known_frames row))) (λ e. rw e known)

known_vacated : (event : Event) (frame : ℕ) (row : List ℕ) → KnownSlots row → KnownSlots (vacated event frame row)
unfolding vacated
known_vacated Put frame row known = known
known_vacated Touch frame row known = known_emptied frame row known
known_vacated Start frame row known = known
known_vacated End frame row known = known
known_vacated Drop frame row known = known_emptied frame row known

known_then : (event : Event) (row : List ℕ) (front frame : ℕ) → frame < frames → KnownSlots row →
    KnownSlots (slots_then event row front frame)
unfolding slots_then
known_then event row front frame small known =
    let left = known_vacated event frame row known in
    by_cases (moves event)
    (λ e. rw e (known_set (roomy_slots (vacated event frame row) front) (roomy_front (vacated event frame row) front - 1) frame
    (omega arith) (known_roomy (vacated event frame row) front left)))
    (λ e. rw e left)

known_fresh : (n : ℕ) → KnownSlots (replicate n empty)
known_fresh zero = λ slot. le_refl empty
known_fresh (suc n) = known_cons empty (replicate n empty) (le_refl empty) (known_fresh n)

-- the two facts that no other law has, after any calls
record Fine (row : Row) : Type 0 where
  pub slots : KnownSlots row.slots
  pub roomy : Roomy row

-- W2: a frame that moved stands in the slot at the front
moved_there : {row : List ℕ} {front frame : ℕ} (event : Event) → Ready event row front frame → moves event ≡ true →
    get_or (slots_then event row front frame) (front_then event row front frame) empty ≡ frame
unfolding slots_then front_then
moved_there {row} {front} {frame} event ready move =
    let left = vacated event frame row in
    let fewerFew : length (fewer event frame (frames_in row)) ≤ Limits.held =
    omega (arith, ready.few, length_fewer event frame (frames_in row)) in
    let holding = squeeze_holding fewerFew (vacate_holding event frame ready.small ready.fits) in
    rw move
    (get_or-set_same (roomy_slots left front) (roomy_front left front - 1) frame empty
    (omega (arith, holding.low, holding.inside, holding.long)))

-- a call that does not move its frame leaves the front as it was, and none more are held
roomy_stays : (event : Event) (row : List ℕ) (front frame before later : ℕ) → moves event ≡ false →
    later + bit_before event ≡ before + bit_later event → before ≤ Limits.held →
    (get_or row front empty ≡ empty → before < Limits.held) →
    get_or (slots_then event row front frame) (front_then event row front frame) empty ≡ empty → later < Limits.held
unfolding slots_then front_then vacated
roomy_stays Put row front frame before later still bits few roomy gap = clash refl still
roomy_stays Touch row front frame before later still bits few roomy gap = clash refl still
roomy_stays Start row front frame before later still bits few roomy gap = omega (arith, roomy gap)
roomy_stays End row front frame before later still bits few roomy gap = omega (arith, roomy gap)
roomy_stays Drop row front frame before later still bits few roomy gap = omega arith

module _ {row : Row} (order : Ordered row) (call : Call) (fine : Fine row) where
  fine_moved : accepts row.states call ≡ true → Fine (moved row call)
  unfolding moved
  fine_moved ok =
      let sound = order.sound in
      let asks = ready call sound order.good ok in
      record {
        slots = known_then call.event row.slots row.front call.frame asks.small fine.slots;
        roomy = λ gap.
            by_cases (moves call.event)
            (λ move. absurd (omega (arith, moved_there call.event asks move, asks.small)))
            (λ still. roomy_stays call.event row.slots row.front call.frame row.held
            (held_in (states_then row.states call)) still
            (omega (arith, held_then row.states call order.good ok, sound.number))
            (omega (arith, sound.number, order.good.few)) fine.roomy gap);
      }

  fine_then : Fine (after row call)
  fine_then =
      by_cases (accepts row.states call) (λ ok. rw (after_accepted row call ok) (fine_moved ok))
      (λ no. rw (after_refused row call no) fine)

fine_after : (history : List Call) → Fine (row_after history)
unfolding row_after
fine_after [] = record { slots = unfold empty_row in known_fresh Limits.slots; roomy = unfold empty_row in λ gap. omega arith }
fine_after (call ∷ history) = fine_then (ordered (record { history = history; gives = refl })) call (fine_after history)

-- whatever calls give is tidy
pub tidy : {row : Row} → Reached row → Tidy row
tidy {row} reached =
    let order = ordered reached in
    let sound = order.sound in
    let fine : Fine row = subst Fine reached.gives (fine_after reached.history) in
    record {
      long = sound.fits.long;
      wide = order.good.long;
      inside = sound.fits.inside;
      clear = sound.fits.clear;
      slots = fine.slots;
      states = order.good.known;
      once = λ frame small. sym (times_frames_in frame row.slots small) ∙ sound.once frame;
      number = sound.number;
      few = omega (arith, sound.number, order.good.few);
      roomy = fine.roomy;
    }
