-- A tidy row is one that a fresh row and calls give: it is built from the old end on, by a put for each frame, a put and a drop
-- for each empty slot, and a start for each busy frame. Told backwards, each of these takes a tidy row from one that is nearer
-- to a fresh one.
use Rattle.std.specs.Prelude.{ℕ, zero, suc, ◌+◌, ◌-◌, ◌<◌, ◌≤◌, ◌≡◌, List, [], ltb, eqb, length, get_or, set, replicate}
use Rattle.std.proofs.Common.{le_refl, arith, ◌∙◌, subst, get_or-set_same, get_or-set_other, ext_get_or, ne_eqb, eqb-true}
use Rattle.std.proofs.Common.{ltb-true, ltb-false}
use Rattle.std.proofs.Math.Path.{refl, sym, ap}
use Rattle.std.proofs.Math.ListN.{get_or-eq_default}
use Rattle.std.proofs.lemmas.List.{length-replicate}
use Rattle.std.proofs.lemmas.Bool.{eqb-false}
use Rattle.rules.specs.Limits.{frames}
use Rattle.rules.specs.Limits
use Rattle.rules.specs.Cases.{by_cases}
use Rattle.rules.specs.Lists.{times}
use Rattle.row_theory.specs.States.{absent, idle, busy, state_of, held_bit, held_in}
use Rattle.row_theory.specs.States.{fresh_states}
use Rattle.row_theory.specs.Slots.{empty}
use Rattle.row_theory.specs.Row.{Row, empty_row}
use Rattle.row_theory.specs.Runs.{row_after, Reached}
use Rattle.row_theory.specs.Promise.{row_with, asked}
use Rattle.row_theory.specs.Counting.{times_there}
use Rattle.row_theory.proofs.Tidy.{Tidy}
use Rattle.row_theory.specs.declared.Event.TheVariants.{Put, Start}
use Rattle.row_theory.proofs.RebuildCalls.{reached_then}
use Rattle.row_theory.proofs.RebuildSteps.{Calm, bit_none, calm_idle, calm_stored, before_start, started}
use Rattle.row_theory.proofs.RebuildSteps.{before_put, placed, before_gap, gapped}

-- a tidy row whose front is past the last slot is a fresh one
times_empty : (n frame : ℕ) → frame < frames → times frame (replicate n empty) ≡ 0
unfolding times
times_empty zero frame small = refl
times_empty (suc n) frame small = rw (ne_eqb empty frame (λ e. omega arith)) (times_empty n frame small)

get_d_replicate : (n i v : ℕ) → get_or (replicate n v) i v ≡ v
get_d_replicate zero i v = refl
get_d_replicate (suc n) zero v = refl
get_d_replicate (suc n) (suc i) v = get_d_replicate n i v

bare : {slots states : List ℕ} {front held : ℕ} → Tidy (row_with slots states front held) → front ≡ Limits.slots →
    empty_row ≡ row_with slots states front held
unfolding empty_row
bare {slots} {states} {front} {held} it past =
    let row : replicate Limits.slots empty ≡ slots =
    ext_get_or empty (replicate Limits.slots empty) slots (length-replicate Limits.slots empty ∙ sym it.long)
    (λ i low. get_d_replicate Limits.slots i empty ∙ sym (it.clear i (omega (arith, length-replicate Limits.slots empty)))) in
    let all : fresh_states ≡ states =
    ext_get_or absent fresh_states states (length-replicate frames absent ∙ sym it.wide)
    (λ i low. let small : i < frames = omega (arith, length-replicate frames absent) in
    let none : times i slots ≡ 0 = sym (ap (times i) row) ∙ times_empty Limits.slots i small in
    get_d_replicate frames i absent ∙ sym (bit_none (state_of states i) (sym (it.once i small) ∙ none))) in
    let nothing : 0 ≡ held_in fresh_states = unfold held_in held_bit in refl in
    let none : 0 ≡ held = nothing ∙ ap held_in all ∙ sym it.number in
    λ i. row_with (row i) (all i) (sym past i) (none i)

-- without a transfer under way, slot by slot from the front on
rebuilt_calm : (n : ℕ) {slots states : List ℕ} {front held : ℕ} → front + n ≡ Limits.slots →
    Tidy (row_with slots states front held) → Calm states → Reached (row_with slots states front held)
unfolding row_after
rebuilt_calm zero {slots} {states} {front} {held} left it calm =
    record { history = []; gives = bare it (omega arith) }
rebuilt_calm (suc n) {slots} {states} {front} {held} left it calm =
    let below : front < Limits.slots = omega arith in
    let frame = get_or slots front empty in
    by_cases (ltb frame frames)
    (λ e. let small : frame < frames = ltb-true frame frames e in
    let some : 0 < times frame slots = times_there frame slots front empty (omega (arith, it.long)) refl in
    let isIdle = calm_idle (state_of states frame) (it.states frame) (calm frame) (omega (arith, it.once frame small)) in
    subst Reached (placed it below frame refl small isIdle)
    (reached_then
    (rebuilt_calm n {slots = set slots front empty} {states = set states frame absent} {front = suc front} {held = held - 1}
    (omega arith) (before_put it below frame refl small isIdle)
    (calm_stored states frame absent (omega (arith, it.wide)) (omega arith) calm))
    (asked Put frame)))
    (λ e. let gap : frame ≡ empty = omega (arith, ltb-false frame frames e, it.slots front) in
    gapped it below gap
    (rebuilt_calm n {slots = slots} {states = states} {front = suc front} {held = held} (omega arith) (before_gap it below gap)
    calm))

-- and a start for each busy frame; from this one on none is
abbrev CalmFrom : ℕ → List ℕ → Type 0
CalmFrom n states = (frame : ℕ) → n ≤ frame → state_of states frame ≡ busy → ⊥

calm_made : (n : ℕ) (states : List ℕ) → n < length states → CalmFrom (suc n) states → CalmFrom n (set states n idle)
calm_made n states inside calm frame from is =
    by_cases (eqb frame n)
    (λ e. omega (arith, rw (eqb-true frame n e, get_or-set_same states n idle absent inside) at is))
    (λ e. let ne : frame ≡ n → ⊥ = eqb-false frame n e in
    calm frame (omega arith) (rw (get_or-set_other states n frame idle absent ne) at is))

calm_too : (n : ℕ) (states : List ℕ) → (state_of states n ≡ busy → ⊥) → CalmFrom (suc n) states → CalmFrom n states
calm_too n states here calm frame from is =
    by_cases (eqb frame n) (λ e. here (rw (eqb-true frame n e) at is))
    (λ e. let ne : frame ≡ n → ⊥ = eqb-false frame n e in
    calm frame (omega arith) is)

rebuilt_from : (n : ℕ) {slots states : List ℕ} {front held : ℕ} → Tidy (row_with slots states front held) → n ≤ frames →
    CalmFrom n states → Reached (row_with slots states front held)
rebuilt_from zero {slots} {states} {front} {held} it most calm =
    rebuilt_calm (Limits.slots - front) (omega (arith, it.inside)) it (λ frame is. calm frame (omega arith) is)
rebuilt_from (suc n) {slots} {states} {front} {held} it most calm =
    by_cases (eqb (state_of states n) busy)
    (λ e. let is = eqb-true (state_of states n) busy e in
    let small : n < frames = omega arith in
    subst Reached (started it n small is)
    (reached_then
    (rebuilt_from n {slots = slots} {states = set states n idle} {front = front} {held = held} (before_start it n small is)
    (omega arith) (calm_made n states (omega (arith, it.wide)) calm))
    (asked Start n)))
    (λ e. rebuilt_from n {slots = slots} {states = states} {front = front} {held = held} it (omega arith)
    (calm_too n states (eqb-false (state_of states n) busy e) calm))

-- a row is one that a fresh row and calls give exactly if it is tidy
pub rebuilt : {row : Row} → Tidy row → Reached row
rebuilt {row} it =
    rebuilt_from frames it (le_refl frames)
    (λ frame past is. omega (arith, get_or-eq_default row.states absent {n = frame} (omega (arith, it.wide))))
