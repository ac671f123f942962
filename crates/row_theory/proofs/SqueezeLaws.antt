-- A call that squeezes leaves its row packed (docs/RULES.md, W3, W4): the touched frame is out of its slot before the squeeze
-- counts the frames, so they fill all slots from the front on. The order of the two steps matters here and nowhere else in
-- these laws.
use Rattle.std.specs.Prelude.{ℕ, zero, suc, ◌+◌, ◌<◌, ◌≤◌, ◌≡◌, true, ◌&&◌, List, [], ◌∷◌, ltb, eqb, length, get_or}
use Rattle.std.proofs.Common.{suc-le-suc, zero-le, not-suc-le-zero, le_of_suc-le-suc, arith, ap, ltb-true, ltb-false}
use Rattle.rules.specs.Limits.{frames, slots, held}
use Rattle.rules.specs.Cases.{by_cases, and_left, and_right}
use Rattle.row_theory.specs.States.{Call, accepts, moves}
use Rattle.row_theory.specs.Slots.{Clear, empty, frames_in, vacated, roomy_front, front_then}
use Rattle.row_theory.specs.Row.{Row, moved, reply_of, examined_of}
use Rattle.row_theory.specs.History.{states_after}
use Rattle.row_theory.specs.Runs.{row_after, PackedRow}
use Rattle.row_theory.specs.SlotLaws.{frames_in_frame, frames_in_empty, frames_in_length, squeezed_front_rest}
use Rattle.row_theory.specs.RecentLaws.{fewer, recent_then, length_fewer}
use Rattle.row_theory.specs.Holding.{vacate_holding}
use Rattle.row_theory.specs.StepLaws.{Ready, slot_step}
use Rattle.row_theory.proofs.GoodStates.{good_after}
use Rattle.row_theory.proofs.SoundRow.{sound_after, ready, after_accepted}
use Rattle.row_theory.proofs.Bound.{examined_rule}
use Rattle.row_theory.specs.declared.Event.{Event}

-- the front that a squeezing call leaves, and the frames it leaves
front_packs : (event : Event) (row : List ℕ) (front frame : ℕ) → Ready event row front frame → moves event ≡ true →
    eqb front 0 ≡ true → front_then event row front frame + length (recent_then event frame (frames_in row)) ≡ slots
unfolding front_then roomy_front recent_then
front_packs event row front frame found move zero-front =
    let left = vacate_holding event frame found.small found.fits in
    let others = fewer event frame (frames_in row) in
    let many : length (frames_in (vacated event frame row)) ≡ length others = ap length left.holds in
    let few : length others ≤ held = omega (arith, length_fewer event frame (frames_in row), found.few) in
    rw (move, zero-front) (omega (arith, squeezed_front_rest (vacated event frame row), left.long))

-- slots that are empty below a mark, and as many frames as there are other slots: each of those holds one
all_full : (row : List ℕ) (mark : ℕ) → Clear mark row → mark + length (frames_in row) ≡ length row →
    (i : ℕ) → mark ≤ i → i < length row → get_or row i empty < frames
all_full [] mark clear sum i from inside = absurd (not-suc-le-zero inside)
all_full (x ∷ row) zero clear sum i from inside =
    by_cases (ltb x frames)
    (λ e. here x row i (ltb-true x frames e) (all_full row zero (λ j below. absurd (not-suc-le-zero below))
    (omega (arith, rw (frames_in_frame x row (ltb-true x frames e)) at sum))) inside)
    (λ e. absurd (omega (arith, rw (frames_in_empty x row (ltb-false x frames e)) at sum, frames_in_length row)))
  where
    here :
        (x : ℕ) (row : List ℕ) (i : ℕ) → x < frames → ((j : ℕ) → zero ≤ j → j < length row → get_or row j empty < frames) →
        i < length (x ∷ row) → get_or (x ∷ row) i empty < frames
    here x row zero small rest inside = small
    here x row (suc j) small rest inside = rest j zero-le (le_of_suc-le-suc inside)
all_full (x ∷ row) (suc mark) clear sum zero from inside = absurd (not-suc-le-zero from)
all_full (x ∷ row) (suc mark) clear sum (suc i) from inside =
    let none : x ≡ empty = clear 0 (suc-le-suc zero-le) in
    all_full row mark (λ j below. clear (suc j) (suc-le-suc below))
    (omega (arith, rw (frames_in_empty x row (omega arith)) at sum)) i (le_of_suc-le-suc from) (le_of_suc-le-suc inside)

-- a row that calls give, whose front and frames held add up to the slots, is packed
sum_packed : (history : List Call) → (row_after history).front + length (frames_in (row_after history).slots) ≡ slots →
    PackedRow (row_after history)
sum_packed history sum =
    let row = row_after history in
    let sound = sound_after history in
    record {
      sum = omega (arith, sound.number, sound.many);
      full = λ slot from inside.
          all_full row.slots row.front sound.fits.clear (omega (arith, sound.fits.long)) slot from
          (omega (arith, sound.fits.long));
    }

-- W5: a reply that has slots examined is an accepted put or touch that found the front at 0
squeezed_by : (row : Row) (call : Call) → examined_of (reply_of row call) ≡ slots →
    (accepts row.states call ≡ true) × (moves call.event ≡ true) × (eqb row.front 0 ≡ true)
squeezed_by row call e =
    let ok = accepts row.states call in
    let move = moves call.event in
    let none = eqb row.front 0 in
    by_cases (ok && (move && none))
    (λ all. let rest = and_right ok (move && none) all in
    (and_left ok (move && none) all, and_left move none rest, and_right move none rest))
    (λ no. absurd (omega (arith, rw (examined_rule row call, no) at e)))

pub packed_after : (call : Call) (history : List Call) → examined_of (reply_of (row_after history) call) ≡ slots →
    PackedRow (row_after (call ∷ history))
packed_after call history e =
    let row = row_after history in
    let sound = sound_after history in
    let by = squeezed_by row call e in
    let yes : accepts (states_after history) call ≡ true = rw sound.same_states at by.0 in
    let found = ready call sound (good_after history) yes in
    let step = slot_step call.event row.slots row.front call.frame found in
    sum_packed (call ∷ history)
    (unfold row_after moved in
    rw (after_accepted row call by.0, step.holds)
    (front_packs call.event row.slots row.front call.frame found by.1 by.2))
