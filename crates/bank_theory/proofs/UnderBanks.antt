-- The row under banks is a row that calls of its own give (docs/RULES.md, B2, B3): the calls that the banks let through, and
-- for each cut a drop of each frame of its bank. So what holds of the row alone holds of it.
use Rattle.std.specs.Prelude.{ℕ, ◌*◌, ◌≡◌, true, ◌&&◌, List, [], ◌∷◌, ◌++◌}
use Rattle.std.proofs.Common.{arith, sym, ◌∙◌}
use Rattle.std.proofs.Math.Path.{refl, ap}
use Rattle.rules.specs.Limits.{bank_frames}
use Rattle.rules.specs.Cases.{by_cases, and_left, and_right}
use Rattle.row_theory.specs.States.{Call, state_of, accepts, states_then}
use Rattle.row_theory.specs.Row.{Row, empty_row, moved, after}
use Rattle.row_theory.specs.Runs.{row_after}
use Rattle.row_theory.specs.History.{states_after}
use Rattle.row_theory.proofs.GoodStates.{good_after, states_refused}
use Rattle.row_theory.proofs.SoundRow.{sound_after, after_accepted, after_refused}
use Rattle.bank_theory.specs.declared.Gating.{Gating}
use Rattle.bank_theory.specs.Banks.{Step, of_frame, of_bank, in_bank, is_cut, takes, cuts, shut, states_under}
use Rattle.bank_theory.specs.Banks.{banks_under}
use Rattle.bank_theory.specs.BankHistory.{Seen, seen_then, seen_after}
use Rattle.bank_theory.specs.Gated.{Gated, fresh_gated, row_without, row_under, gated_then}
use Rattle.bank_theory.specs.BankRuns.{gated_after, drops, calls_of, row_calls}
use Rattle.bank_theory.proofs.Leaving.{without_same}
use Rattle.bank_theory.specs.BankLending.{within}
use Rattle.bank_theory.proofs.Dropping.{drops_leave}
use Rattle.bank_theory.proofs.BankLaws.{bank_range, calm_frame, taken}

-- the states of frames and banks in the whole state
abbrev pub seen_in : Gated → Seen
seen_in gated = record { states = gated.row.states; banks = gated.banks }

states_after_law : (row : Row) (call : Call) → (after row call).states ≡ states_then row.states call
states_after_law row call =
    by_cases (accepts row.states call)
    (λ e. rw (after_accepted row call e) (unfold moved in refl))
    (λ e. rw (after_refused row call e) (sym (states_refused row.states call e)))

-- a call changes them as the history says
seen_then_law : (gated : Gated) (step : Step) → seen_in (gated_then gated step) ≡ seen_then (seen_in gated) step
unfolding gated_then seen_then states_under banks_under row_under row_without
seen_then_law gated (of_frame call) =
    by_cases (shut gated.banks call) (λ e. rw e)
    (λ e. rw e (λ i. record { states = states_after_law gated.row call i; banks = gated.banks }))
seen_then_law gated (of_bank gating bank) =
    by_cases (cuts gated.row.states gated.banks gating bank) (λ e. rw e) (λ e. rw e)

pub same_seen : (history : List Step) → seen_in (gated_after history) ≡ seen_after history
unfolding gated_after seen_after fresh_gated empty_row
same_seen [] = refl
same_seen (step ∷ history) = seen_then_law (gated_after history) step ∙ ap (λ (s : Seen). seen_then s step) (same_seen history)

-- B2: a cut is a drop of each frame of its bank
pub cut_drops : (calls : List Call) (banks : List ℕ) (gating : Gating) (bank : ℕ) → is_cut gating ≡ true →
    takes (row_after calls).states banks gating bank ≡ true →
    row_without (in_bank bank) (row_after calls) ≡ row_after (drops (bank * bank_frames) bank_frames ++ calls)
cut_drops calls banks gating bank cut ok =
    let first = bank * bank_frames in
    let row = row_after calls in
    let took = taken row.states banks gating bank ok in
    let known = (good_after calls).known in
    without_same (in_bank bank) (within first bank_frames) row (bank_range bank) ∙
    sym (drops_leave first bank_frames calls (omega (arith, took.small))
    (λ frame low high.
    let calm = calm_frame row.states first bank_frames frame (took.calm cut) low high in
    let same = ap (λ (l : List ℕ). state_of l frame) (sound_after calls).same_states in
    omega (arith, calm, same, known frame)))

-- one call more
row_then_law : (gated : Gated) (calls : List Call) (step : Step) → gated.row ≡ row_after calls →
    (gated_then gated step).row ≡ row_after (calls_of (seen_in gated) step ++ calls)
unfolding gated_then row_under calls_of
row_then_law gated calls (of_frame call) same =
    by_cases (shut gated.banks call) (λ e. rw e same)
    (λ e. rw e (unfold row_after in ap (λ (r : Row). after r call) same))
row_then_law gated calls (of_bank gating bank) same =
    let ok = takes gated.row.states gated.banks gating bank in
    by_cases (is_cut gating && ok)
    (λ both. rw both
    (ap (row_without (in_bank bank)) same ∙
    cut_drops calls gated.banks gating bank (and_left (is_cut gating) ok both)
    (rw (← same) (and_right (is_cut gating) ok both))))
    (λ kept. rw kept same)

-- B2, B3: what holds of the row alone holds of the row under banks
pub under_banks : (history : List Step) → (gated_after history).row ≡ row_after (row_calls history)
unfolding gated_after row_calls
under_banks [] = unfold fresh_gated row_after in refl
under_banks (step ∷ history) =
    row_then_law (gated_after history) (row_calls history) step (under_banks history) ∙
    ap (λ (s : Seen). row_after (calls_of s step ++ row_calls history)) (same_seen history)

pub states_under_law : (history : List Step) → states_after (row_calls history) ≡ (seen_after history).states
states_under_law history =
    sym (sound_after (row_calls history)).same_states ∙ sym (ap (λ (r : Row). r.states) (under_banks history)) ∙
    ap (λ (s : Seen). s.states) (same_seen history)
