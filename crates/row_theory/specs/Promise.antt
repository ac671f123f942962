-- What the row's calls promise (docs/RULES.md, D1, A1, A3, W1 to W7), over a row in memory that the caller lends.
use Rattle.std.specs.Prelude.{ℕ, ◌≡◌, Bool, cond, List, ◌∷◌, ltb, Result}
use Rattle.rules.specs.Limits.{frames}
use Rattle.rules.specs.declared.Frame.{Frame}
use Rattle.rules.specs.declared.refusal.Refusal.{Refusal}
use Rattle.row_theory.specs.States.{Call, absent, state_of, refusal_of}
use Rattle.row_theory.specs.Slots.{places_in}
use Rattle.row_theory.specs.Row.{Row, empty_row, after, reply_of, reply_number, reply_place, victim_among}
use Rattle.row_theory.specs.History.{states_after, VictimSays}
use Rattle.row_theory.specs.Runs.{row_after, Reached}
use Rattle.row_theory.specs.declared.Event.{Event}

-- the memory that the caller lends: the slots, each frame's place in them, each frame's state, the front mark, the number held
pub record Memory : Type 0 where
  pub slots : List ℕ
  pub places : List ℕ
  pub states : List ℕ
  pub front : ℕ
  pub held : ℕ

abbrev pub memory : List ℕ → List ℕ → List ℕ → ℕ → ℕ → Memory
memory slots places states front held = record { slots = slots; places = places; states = states; front = front; held = held }

-- a row, by its parts
abbrev pub row_with : List ℕ → List ℕ → ℕ → ℕ → Row
row_with slots states front held = record { slots = slots; states = states; front = front; held = held }

-- the row that stands in it
abbrev pub row_in : Memory → Row
row_in m = row_with m.slots m.states m.front m.held

-- the row is one that a fresh row and calls give, and the places are those of its slots
pub record Stands (m : Memory) : Type 0 where
  pub reached : Reached (row_in m)
  pub index : m.places ≡ places_in m.slots

abbrev pub asked : Event → ℕ → Call
asked event frame = record { event = event; frame = frame }

-- what a reply and the row after it say of a history before the call: the number is the one that the history says (0:
-- accepted), the place is 0, and the row is that of the longer history
pub record ReplySays (history : List Call) (call : Call) (reply : Result ℕ Refusal) (row' : Row) : Type 0 where
  pub number : reply_number reply ≡ refusal_of (states_after history) call
  pub place : reply_place reply ≡ 0
  pub next : row' ≡ row_after (call ∷ history)

-- one of the five calls: the whole answer and the whole row after it, which again is one that calls give; and what that says
-- of any history that gives the row
pub record Answered (m : Memory) (call : Call) (reply : Result ℕ Refusal) (m' : Memory) : Type 0 where
  pub answer : reply ≡ reply_of (row_in m) call
  pub next : row_in m' ≡ after (row_in m) call
  pub stands : Stands m'
  pub says : (history : List Call) → row_after history ≡ row_in m → ReplySays history call reply (row_in m')

-- a fresh row
pub record FreshRow (m : Memory) : Type 0 where
  pub whole : row_in m ≡ empty_row
  pub stands : Stands m

-- W7, R26, R27: the oldest idle frame among those that the caller lets go: the whole answer, and what it says of any history
-- that gives the row
pub record OldestIdle (row : Row) (may : ℕ → Bool) (victim : Result Frame Refusal) : Type 0 where
  pub answer : victim ≡ victim_among may row
  pub says : (history : List Call) → row_after history ≡ row → VictimSays history may victim

-- the state of one frame, whatever its number
abbrev pub state_in : List ℕ → ℕ → ℕ
state_in states frame = cond (ltb frame frames) (state_of states frame) absent
