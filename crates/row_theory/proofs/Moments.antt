-- The moments of frames (docs/RULES.md, W7): what a call changes of them.
use Rattle.std.specs.Prelude.{ℕ, suc, ◌≤◌, ◌≡◌, refl, true, false, ◌&&◌, List, [], ◌∷◌, eqb, length}
use Rattle.std.proofs.Common.{zero-le, arith, eq-eqb, ne_eqb}
use Rattle.std.proofs.Math.Bool.{and-false}
use Rattle.rules.specs.Cases.{by_cases}
use Rattle.row_theory.specs.States.{Call, accepts}
use Rattle.row_theory.specs.History.{states_after, moves_last, moment_after}
use Rattle.row_theory.specs.RecentLaws.{Later}

-- no moment is later than now
pub moment_bound : (history : List Call) (frame : ℕ) → moment_after history frame ≤ length history
unfolding moment_after
moment_bound [] frame = zero-le
moment_bound (call ∷ history) frame =
    by_cases (moves_last call history && eqb call.frame frame) (λ e. rw e (omega arith))
    (λ e. rw e (omega (arith, moment_bound history frame)))

-- an accepted put or touch happens now; all else leaves every moment
moment_now : (call : Call) (history : List Call) → moves_last call history ≡ true →
    moment_after (call ∷ history) call.frame ≡ suc (length history)
unfolding moment_after
moment_now call history e = rw (e, eq-eqb call.frame call.frame refl)

pub moment_kept : (call : Call) (history : List Call) (frame : ℕ) → moves_last call history ≡ false →
    moment_after (call ∷ history) frame ≡ moment_after history frame
unfolding moment_after
moment_kept call history frame e = rw e

moment_other : (call : Call) (history : List Call) (frame : ℕ) → (call.frame ≡ frame → ⊥) →
    moment_after (call ∷ history) frame ≡ moment_after history frame
unfolding moment_after
moment_other call history frame ne = rw (ne_eqb call.frame frame ne, and-false (moves_last call history))

pub later_accepted : (call : Call) (history : List Call) → accepts (states_after history) call ≡ true →
    Later call.event call.frame (moment_after history) (moment_after (call ∷ history))
later_accepted call history e =
    record {
      latest = λ move x. omega (arith, moment_now call history (unfold moves_last in rw (e, move)), moment_bound history x);
      kept = λ still. moment_kept call history call.frame (unfold moves_last in rw (e, still));
      others = λ x ne. moment_other call history x ne;
    }

pub moment_refused : (call : Call) (history : List Call) (frame : ℕ) → accepts (states_after history) call ≡ false →
    moment_after (call ∷ history) frame ≡ moment_after history frame
moment_refused call history frame e = moment_kept call history frame (unfold moves_last in rw e)
