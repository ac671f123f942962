-- Moments, moves and slots examined under banks (docs/RULES.md, B4, B5): those of the row's own calls, but for the moments'
-- numbers, which are in the same order.
use Rattle.std.specs.Prelude.{ℕ, zero, suc, ◌+◌, ◌*◌, ◌<◌, ◌≤◌, ◌≡◌, refl, Bool, true, false, cond, ◌&&◌, List, [], ◌∷◌}
use Rattle.std.specs.Prelude.{◌++◌, eqb, length, Result, Ok, Err}
use Rattle.std.specs.Result.{result_and}
use Rattle.std.proofs.Common.{zero-le, arith, sym, ◌∙◌, ap}
use Rattle.std.proofs.Math.Bool.{and-false}
use Rattle.rules.specs.Limits.{bank_frames}
use Rattle.rules.specs.Cases.{by_cases}
use Rattle.rules.specs.declared.refusal.Refusal.{Refusal}
use Rattle.row_theory.specs.States.{Call, accepts, moves}
use Rattle.row_theory.specs.Row.{reply_of, examined_of}
use Rattle.row_theory.specs.History.{states_after, moves_last, moment_after, moves_after}
use Rattle.row_theory.specs.Runs.{row_after, examined_after}
use Rattle.row_theory.specs.Promise.{asked}
use Rattle.row_theory.proofs.Moments.{moment_bound, moment_kept}
use Rattle.row_theory.proofs.Bound.{examined_rule}
use Rattle.row_theory.specs.declared.Event.TheVariants.{Drop}
use Rattle.bank_theory.specs.declared.Gating.{Gating}
use Rattle.bank_theory.specs.Banks.{Step, of_frame, of_bank, gating_verdict, cuts, shut}
use Rattle.bank_theory.specs.BankHistory.{Seen, seen_after, moves_now, moment_under, moves_under}
use Rattle.bank_theory.specs.Gated.{reply_under}
use Rattle.bank_theory.specs.BankRuns.{gated_after, examined_under, drops, calls_of, row_calls}
use Rattle.bank_theory.proofs.UnderBanks.{same_seen, under_banks, states_under_law}

-- what a drop leaves as it was
record Still (before after : List Call) : Type 0 where
  pub moment : (frame : ℕ) → moment_after after frame ≡ moment_after before frame
  pub count : moves_after after ≡ moves_after before
  pub seen : examined_after after ≡ examined_after before

still_same : (calls : List Call) → Still calls calls
still_same calls = record { moment = λ frame. refl; count = refl; seen = refl }

drop_moves_not : (frame : ℕ) (calls : List Call) → moves_last (asked Drop frame) calls ≡ false
unfolding moves_last
drop_moves_not frame calls = and-false (accepts (states_after calls) (asked Drop frame))

drop_still : (frame : ℕ) {before calls : List Call} → Still before calls → Still before (asked Drop frame ∷ calls)
unfolding moves_after examined_after
drop_still frame {before} {calls} still =
    let not-moved = drop_moves_not frame calls in
    let none : examined_of (reply_of (row_after calls) (asked Drop frame)) ≡ 0 =
    examined_rule (row_after calls) (asked Drop frame) ∙ rw (and-false (accepts (row_after calls).states (asked Drop frame))) in
    record {
      moment = λ other. moment_kept (asked Drop frame) calls other not-moved ∙ still.moment other;
      count = rw not-moved (omega (arith, still.count));
      seen = omega (arith, still.seen);
    }

drops_still : (first many : ℕ) (calls : List Call) → Still calls (drops first many ++ calls)
unfolding drops
drops_still first zero calls = still_same calls
drops_still first (suc many) calls = drop_still (first + many) (drops_still first many calls)

-- and so does a bank call
bank_still : (seen : Seen) (gating : Gating) (bank : ℕ) (calls : List Call) →
    Still calls (calls_of seen (of_bank gating bank) ++ calls)
unfolding calls_of
bank_still seen gating bank calls =
    by_cases (cuts seen.states seen.banks gating bank)
    (λ e. rw e (drops_still (bank * bank_frames) bank_frames calls))
    (λ e. rw e (still_same calls))

-- a call that the banks let through moves its frame exactly if the row's own call does
moves_agree : (history : List Step) (call : Call) → shut (seen_after history).banks call ≡ false →
    moves_now (seen_after history) call ≡ moves_last call (row_calls history)
unfolding moves_now moves_last
moves_agree history call through =
    rw through (ap (λ (l : List ℕ). accepts l call && moves call.event) (sym (states_under_law history)))

shut_moves_not : (seen : Seen) (call : Call) → shut seen.banks call ≡ true → moves_now seen call ≡ false
unfolding moves_now
shut_moves_not seen call e = rw e

-- B5: the accepted puts and touches are the row's own
pub moves_same : (history : List Step) → moves_after (row_calls history) ≡ moves_under history
unfolding row_calls moves_under calls_of moves_after
moves_same [] = refl
moves_same (of_frame call ∷ history) =
    by_cases (shut (seen_after history).banks call)
    (λ e. rw (shut_moves_not (seen_after history) call e, e) (omega (arith, moves_same history)))
    (λ e. rw (moves_agree history call e, e) (omega (arith, moves_same history)))
moves_same (of_bank gating bank ∷ history) =
    (bank_still (seen_after history) gating bank (row_calls history)).count ∙ moves_same history

-- a bank call examines none
bank_examined : (v : Result ℕ Refusal) → examined_of (result_and v (Ok 0)) ≡ 0
bank_examined (Ok state) = refl
bank_examined (Err r) = refl

-- B5: and so are the slots examined
pub examined_same : (history : List Step) → examined_after (row_calls history) ≡ examined_under history
unfolding row_calls examined_under reply_under calls_of examined_after
examined_same [] = refl
examined_same (of_frame call ∷ history) =
    let banks : (gated_after history).banks ≡ (seen_after history).banks = ap (λ (s : Seen). s.banks) (same_seen history) in
    by_cases (shut (seen_after history).banks call)
    (λ e. rw (banks, e) (omega (arith, examined_same history)))
    (λ e. rw (banks, e, under_banks history) (omega (arith, examined_same history)))
examined_same (of_bank gating bank ∷ history) =
    let gated = gated_after history in
    let none = bank_examined (gating_verdict gated.row.states gated.banks gating bank) in
    (bank_still (seen_after history) gating bank (row_calls history)).seen ∙ examined_same history ∙ omega (arith, none)

-- no moment is later than now
moment_bound_under : (history : List Step) (frame : ℕ) → moment_under history frame ≤ length history
unfolding moment_under
moment_bound_under [] frame = zero-le
moment_bound_under (of_frame call ∷ history) frame =
    by_cases (moves_now (seen_after history) call && eqb call.frame frame) (λ e. rw e (omega arith))
    (λ e. rw e (omega (arith, moment_bound_under history frame)))
moment_bound_under (of_bank gating bank ∷ history) frame = omega (arith, moment_bound_under history frame)

-- a later moment in the row's own calls is a later one here: if a frame is moved now, its moment is the latest in both
later_now : (move here there : Bool) {now old old' now⁺ old⁺ old'⁺ : ℕ} → old' < now → old⁺ < now⁺ → (old < old' → old⁺ < old'⁺) →
    cond (move && here) now old < cond (move && there) now old' → cond (move && here) now⁺ old⁺ < cond (move && there) now⁺ old'⁺
later_now false here there late now before less = before less
later_now true true true late now before less = absurd (omega arith)
later_now true true false late now before less = absurd (omega arith)
later_now true false true late now before less = now
later_now true false false late now before less = before less

pub later_same : (history : List Step) (frame other : ℕ) →
    moment_after (row_calls history) frame < moment_after (row_calls history) other →
    moment_under history frame < moment_under history other
unfolding row_calls moment_under calls_of moment_after
later_same [] frame other less = absurd (omega arith)
later_same (of_frame call ∷ history) frame other less =
    let calls = row_calls history in
    let before = later_same history frame other in
    by_cases (shut (seen_after history).banks call)
    (λ e. rw (shut_moves_not (seen_after history) call e) (before (rw e at less)))
    (λ e. rw (moves_agree history call e)
    (later_now (moves_last call calls) (eqb call.frame frame) (eqb call.frame other)
    (omega (arith, moment_bound calls other)) (omega (arith, moment_bound_under history frame)) before
    (rw e at less)))
later_same (of_bank gating bank ∷ history) frame other less =
    let still = bank_still (seen_after history) gating bank (row_calls history) in
    later_same history frame other (omega (arith, still.moment frame, still.moment other))
