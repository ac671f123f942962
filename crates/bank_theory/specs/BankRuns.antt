-- What fresh banks and calls give (docs/RULES.md, B1 to B5), latest call first or first call first; and the calls that the
-- row alone would have been given.
use Rattle.std.specs.Prelude.{ℕ, zero, suc, ◌+◌, ◌*◌, ◌≡◌, cond, List, [], ◌∷◌, ◌++◌, Result}
use Rattle.rules.specs.Limits.{bank_frames}
use Rattle.row_theory.specs.States.{Call}
use Rattle.row_theory.specs.Row.{examined_of}
use Rattle.row_theory.specs.Runs.{answers_of, victim_after_calls}
use Rattle.row_theory.specs.Promise.{asked}
use Rattle.row_theory.specs.declared.Event.TheVariants.{Drop}
use Rattle.rules.specs.declared.Frame.{Frame}
use Rattle.rules.specs.declared.refusal.Refusal.{Refusal}
use Rattle.rules.specs.Lists.{values_from}
use Rattle.bank_theory.specs.Banks.{Step, of_frame, of_bank, in_bank, in_open, gated_to, busy_from, gating_verdict, cuts}
use Rattle.bank_theory.specs.Banks.{shut_out, shut, states_without, banks_under}
use Rattle.bank_theory.specs.BankHistory.{Seen, seen_after}
use Rattle.bank_theory.specs.Gated.{Gated, fresh_gated, slots_without, row_without, row_under, gated_then, reply_under}
use Rattle.bank_theory.specs.Gated.{victim_under}

-- the row and the banks that fresh ones and these calls give
unfoldable pub gated_after : List Step → Gated
gated_after [] = fresh_gated
gated_after (step ∷ history) = gated_then (gated_after history) step

-- B5: the slots examined by all of these calls
unfoldable pub examined_under : List Step → ℕ
examined_under [] = 0
examined_under (step ∷ history) = examined_of (reply_under (gated_after history) step) + examined_under history

-- a row under banks is one that fresh ones and calls give if some history gives it
pub record ReachedUnder (gated : Gated) : Type 0 where
  pub history : List Step
  pub gives : gated_after history ≡ gated

-- drops of so many frames from a number on, latest first
unfoldable pub drops : ℕ → ℕ → List Call
drops frame zero = []
drops frame (suc more) = asked Drop (frame + more) ∷ drops frame more

-- the calls of the row alone that come to the same: a call that finds its bank not open is none, and a cut is a drop of each
-- frame of its bank
unfoldable pub calls_of : Seen → Step → List Call
calls_of seen (of_frame call) = cond (shut seen.banks call) [] (call ∷ [])
calls_of seen (of_bank gating bank) =
    cond (cuts seen.states seen.banks gating bank) (drops (bank * bank_frames) bank_frames) []

unfoldable pub row_calls : List Step → List Call
row_calls [] = []
row_calls (step ∷ history) = calls_of (seen_after history) step ++ row_calls history

-- first call first: what calls make of a row under banks, and what they answer
unfoldable pub gated_from : Gated → List Step → Gated
gated_from gated [] = gated
gated_from gated (step ∷ steps) = gated_from (gated_then gated step) steps

unfoldable pub replies_from : Gated → List Step → List (Result ℕ Refusal)
replies_from gated [] = []
replies_from gated (step ∷ steps) = reply_under gated step ∷ replies_from (gated_then gated step) steps

-- P13, P14: what fresh banks answer to these calls, and the victim after them. Whoever unfolds one of the two unfolds all
-- that it computes by
unfoldable pub replies_of : List Step → List (Result ℕ Refusal)
unfolding answers_of values_from in_bank in_open gated_to busy_from gating_verdict shut_out states_without banks_under fresh_gated
    slots_without row_without row_under gated_then reply_under replies_from
replies_of steps = replies_from fresh_gated steps

unfoldable pub victim_after_steps : List Step → Result Frame Refusal
unfolding replies_of victim_after_calls gated_from
victim_after_steps steps = victim_under (gated_from fresh_gated steps)
