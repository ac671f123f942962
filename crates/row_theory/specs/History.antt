-- Call histories (docs/RULES.md, W5 to W7): what a sequence of calls says by itself. Nothing here knows of slots, as the
-- imports show. A history is the calls so far, latest first, refused ones included.
use Rattle.std.specs.Prelude.{ℕ, ◌+◌, ◌<◌, ◌≡◌, Bool, true, cond, ◌&&◌, List, [], ◌∷◌, eqb, length, Result, Ok, Err}
use Rattle.rules.specs.Refusals.{nothing_held, all_busy, refusal_number, refusal_place}
use Rattle.rules.specs.declared.Frame.{Frame}
use Rattle.rules.specs.declared.refusal.Refusal.{Refusal}
use Rattle.row_theory.specs.States.{Call, idle, fresh_states, state_of, held_in, accepts, states_then, moves}

-- which frames are absent, idle or busy
unfoldable pub states_after : List Call → List ℕ
states_after [] = fresh_states
states_after (call ∷ history) = states_then (states_after history) call

-- is the latest call an accepted put or touch?
unfoldable pub moves_last : Call → List Call → Bool
moves_last call history = accepts (states_after history) call && moves call.event

-- W7: the moment of a frame's last accepted put or touch is the number of calls so far; 0 if there is none
unfoldable pub moment_after : List Call → ℕ → ℕ
moment_after [] frame = 0
moment_after (call ∷ history) frame =
    cond (moves_last call history && eqb call.frame frame) (length (call ∷ history)) (moment_after history frame)

-- W5: the accepted puts and touches
unfoldable pub moves_after : List Call → ℕ
moves_after [] = 0
moves_after (call ∷ history) = cond (moves_last call history) 1 0 + moves_after history

-- is the frame held and idle after these calls, and does the caller let it go?
abbrev pub MayGo : List Call → (ℕ → Bool) → ℕ → Type 0
MayGo history may frame = (state_of (states_after history) frame ≡ idle) × (may frame ≡ true)

-- W7: of the frames that may go, the one whose last accepted put or touch came earliest
pub record VictimIs (goes : ℕ → Type 0) (moment : ℕ → ℕ) (frame : ℕ) : Type 0 where
  pub may_go : goes frame
  pub earliest : (other : ℕ) → (frame ≡ other → ⊥) → goes other → moment frame < moment other

-- R26, R27: none may go, and the number says whether any frame is held
pub record NoVictim (goes : ℕ → Type 0) (states : List ℕ) (refusal : Refusal) : Type 0 where
  pub none : (frame : ℕ) → goes frame → ⊥
  pub number : refusal_number refusal ≡ cond (eqb (held_in states) 0) nothing_held all_busy
  pub place : refusal_place refusal ≡ 0

-- what an answer to asking for a victim says of the frames that may go, their moments, and the states
abbrev pub VictimOf : (ℕ → Type 0) → (ℕ → ℕ) → List ℕ → Result Frame Refusal → Type 0
VictimOf goes moment states (Ok frame) = VictimIs goes moment frame.0
VictimOf goes moment states (Err refusal) = NoVictim goes states refusal

-- and so of the history
abbrev pub VictimSays : List Call → (ℕ → Bool) → Result Frame Refusal → Type 0
VictimSays history may victim = VictimOf (MayGo history may) (moment_after history) (states_after history) victim
