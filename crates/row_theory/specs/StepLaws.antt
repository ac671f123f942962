-- What one accepted call makes of slots that are in order: the frames in them, the slots below the front, and the front itself.
use Rattle.std.specs.Prelude.{ℕ, suc, ◌<◌, ◌≤◌, ◌≡◌, true, false, cond, List, eqb, length}
use Rattle.std.proofs.Common.{arith}
use Rattle.std.proofs.lemmas.Bool.{eqb-false}
use Rattle.rules.specs.Limits.{frames, held}
use Rattle.rules.specs.Cases.{by_cases}
use Rattle.rules.specs.Lists.{times}
use Rattle.row_theory.specs.States.{moves}
use Rattle.row_theory.specs.Slots.{frames_in, roomy_front, slots_then, front_then}
use Rattle.row_theory.specs.StateLaws.{bit_before}
use Rattle.row_theory.specs.RecentLaws.{fewer, recent_then, length_fewer}
use Rattle.row_theory.specs.Holding.{Holding, vacate_holding, spare, squeeze_holding, take_holding}
use Rattle.row_theory.specs.declared.Event.{Event}

-- what an accepted call finds
pub record Ready (event : Event) (row : List ℕ) (front frame : ℕ) : Type 0 where
  pub small : frame < frames
  pub fits : Holding 0 row front (frames_in row)
  pub few : length (frames_in row) ≤ held
  pub once : times frame (frames_in row) ≡ bit_before event

-- the slots that are surely free below the front after it
unfoldable pub spare_then : Event → ℕ → ℕ
spare_then event front = cond (moves event) (spare front) 0

-- and what it leaves
pub slot_step : (event : Event) (row : List ℕ) (front frame : ℕ) → Ready event row front frame →
    Holding (spare_then event front) (slots_then event row front frame) (front_then event row front frame)
    (recent_then event frame (frames_in row))
unfolding slots_then front_then recent_then spare_then
slot_step event row front frame ready =
    let small = ready.small in
    let fits = ready.fits in
    let few = ready.few in
    let fewerFew : length (fewer event frame (frames_in row)) ≤ held = omega (arith, length_fewer event frame (frames_in row)) in
    by_cases (moves event)
    (λ move. rw move (search (take_holding, squeeze_holding, vacate_holding)))
    (λ still. rw still (vacate_holding event frame small fits))

-- a call that does not move its frame leaves the front
pub front_stays : (event : Event) (row : List ℕ) (front frame : ℕ) → moves event ≡ false →
    front_then event row front frame ≡ front
unfolding front_then
front_stays event row front frame still = rw still

-- a move that does not squeeze lowers it by one
pub front_falls : (event : Event) (row : List ℕ) (front frame : ℕ) → moves event ≡ true → eqb front 0 ≡ false →
    suc (front_then event row front frame) ≡ front
unfolding front_then roomy_front
front_falls event row front frame move above = rw (move, above) (omega (arith, eqb-false front 0 above))
