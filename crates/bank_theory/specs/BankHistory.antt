-- Call histories of a row under banks (docs/RULES.md, B1 to B6): what a sequence of calls says by itself. Nothing here knows
-- of slots, as the imports show. A history is the calls of frames and of banks so far, latest first, refused ones included.
use Rattle.std.specs.Prelude.{ℕ, ◌+◌, ◌≡◌, Bool, cond, not, ◌&&◌, List, [], ◌∷◌, eqb, length, Result}
use Rattle.rules.specs.declared.Frame.{Frame}
use Rattle.rules.specs.declared.refusal.Refusal.{Refusal}
use Rattle.row_theory.specs.States.{Call, idle, state_of, accepts, moves, fresh_states}
use Rattle.row_theory.specs.History.{VictimOf}
use Rattle.bank_theory.specs.Banks.{Step, of_frame, of_bank, bank_of, opened, bank_state, fresh_banks, shut}
use Rattle.bank_theory.specs.Banks.{states_under, banks_under}

-- which frames are absent, idle or busy, and which banks are open, closing or off
pub record Seen : Type 0 where
  pub states : List ℕ
  pub banks : List ℕ

unfoldable pub seen_then : Seen → Step → Seen
seen_then seen step =
    record { states = states_under seen.states seen.banks step; banks = banks_under seen.states seen.banks step }

unfoldable pub seen_after : List Step → Seen
seen_after [] = record { states = fresh_states; banks = fresh_banks }
seen_after (step ∷ history) = seen_then (seen_after history) step

-- is this call of a frame an accepted put or touch?
unfoldable pub moves_now : Seen → Call → Bool
moves_now seen call = not (shut seen.banks call) && (accepts seen.states call && moves call.event)

-- B4: the moment of a frame's last accepted put or touch is the number of calls so far; 0 if there is none
unfoldable pub moment_under : List Step → ℕ → ℕ
moment_under [] frame = 0
moment_under (of_frame call ∷ history) frame =
    cond (moves_now (seen_after history) call && eqb call.frame frame) (length (of_frame call ∷ history))
    (moment_under history frame)
moment_under (of_bank gating bank ∷ history) frame = moment_under history frame

-- B5: the accepted puts and touches; calls of banks are not counted
unfoldable pub moves_under : List Step → ℕ
moves_under [] = 0
moves_under (of_frame call ∷ history) = cond (moves_now (seen_after history) call) 1 0 + moves_under history
moves_under (of_bank gating bank ∷ history) = moves_under history

-- B4: is the frame idle after these calls, in an open bank?
abbrev pub MayGoUnder : List Step → ℕ → Type 0
MayGoUnder history frame =
    (state_of (seen_after history).states frame ≡ idle) × (bank_state (seen_after history).banks (bank_of frame) ≡ opened)

-- B4, R26, R27: what an answer to asking for a victim says of the history
abbrev pub VictimSaysUnder : List Step → Result Frame Refusal → Type 0
VictimSaysUnder history victim =
    VictimOf (MayGoUnder history) (moment_under history) (seen_after history).states victim
