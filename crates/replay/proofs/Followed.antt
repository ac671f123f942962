-- How far a trace was followed: so many references were accepted, all before the first bad page.
use Rattle.std.specs.Prelude.{ℕ, suc, ◌+◌, ◌≤◌, ◌<◌, ◌≡◌, List, [], ◌∷◌, leb, length, drop, reverse, Ok, Err}
use Rattle.std.proofs.Common.{arith, sym, ◌∙◌, ap, length-drop}
use Rattle.rules.specs.Limits.{pages}
use Rattle.rules.specs.Refusals.{Answer, accepted, refusal_place, first_bad_page}
use Rattle.rules.specs.FirstBad.{first_bad, first_bad_none, first_bad_found}
use Rattle.rules.specs.Cases.{by_cases}
use Rattle.rules.specs.declared.refusal.Refusal.TheVariants.{BadPage}
use Rattle.session.specs.Lent.{Lent}
use Rattle.session.specs.Memory.{Given}
use Rattle.replay.specs.Steps.{Followed}
use Rattle.replay.proofs.ReplayLaws.{Along}

-- the references accepted of so many: all of them, or those before the one that was refused
abbrev pub accepted_in : ℕ → Answer → ℕ
accepted_in many (Ok u) = many
accepted_in many (Err r) = refusal_place r

pub first_bad_is : (i : ℕ) (trace : List ℕ) → accepted_in (i + length trace) (first_bad_page i trace accepted) ≡ first_bad i trace
unfolding first_bad first_bad_page
first_bad_is i [] = omega arith
first_bad_is i (p ∷ trace) =
    let further : i + length (p ∷ trace) ≡ suc i + length trace = omega arith in
    by_cases (leb pages p) (λ e. rw e) (λ e. rw (e, further) (first_bad_is (suc i) trace))

from_start : (trace : List ℕ) → accepted_in (length trace) (first_bad_page 0 trace accepted) ≡ first_bad 0 trace
from_start trace =
    let all : 0 + length trace ≡ length trace = omega arith in rw all at (first_bad_is 0 trace)

-- the first bad page is still to come, where it stands
pub along_first : {policy k i : ℕ} {trace : List ℕ} {now : Lent} → Along policy k trace i now →
    first_bad i (drop i trace) ≡ first_bad 0 trace
along_first {i = i} {trace = trace} a =
    let long : i + length (drop i trace) ≡ length trace = omega (arith, length-drop i trace, a.inside) in
    sym (first_bad_is i (drop i trace))
    ∙ rw (long, a.ahead) (from_start trace)

module _ {trace : List ℕ} {before after : Lent} {r : Answer} (followed : Followed trace before after r) where
  pub accepted_is : accepted_in (length trace) r ≡ first_bad 0 trace
  accepted_is = rw followed.answer (from_start trace)

  -- where that is all of the trace, none was refused, and the trace is the session's history
  pub all_accepted : length trace ≤ accepted_in (length trace) r → r ≡ accepted
  all_accepted all = followed.answer ∙ first_bad_none 0 trace accepted (omega (arith, accepted_is))

  pub gives : accepted_in (length trace) r ≡ length trace
      → Given before.value.policy before.value.k (reverse trace) after
  gives all = followed.given (all_accepted (omega arith))

  -- where it is not, the one behind them was refused
  pub one_refused : accepted_in (length trace) r < length trace → r ≡ Err (BadPage (accepted_in (length trace) r))
  one_refused some =
      followed.answer ∙ first_bad_found 0 trace accepted (omega (arith, accepted_is))
      ∙ ap (λ (n : ℕ). Err (BadPage n)) (sym accepted_is)
