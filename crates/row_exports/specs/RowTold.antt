-- What the exported row calls promise (docs/RULES.md, X1, X5, R40), of any lent memory: where it passes the row's test, the
-- definitions' answer and memory; where it does not, 40 and the memory as it was. And what that says of memory that a fresh row
-- and calls left.
use Rattle.std.specs.Prelude.{ℕ, ◌≡◌, cond, List, ◌∷◌}
use Rattle.rules.specs.Lists.{one}
use Rattle.rules.specs.Told.{Told, tested_told, told_of}
use Rattle.row_theory.specs.States.{Call, refusal_of}
use Rattle.row_theory.specs.Slots.{places_in}
use Rattle.row_theory.specs.Row.{Row, any_frame, after, reply_of, victim_of}
use Rattle.row_theory.specs.History.{states_after, VictimSays}
use Rattle.row_theory.specs.Runs.{row_after}
use Rattle.row_theory.specs.Promise.{Memory, memory, row_in, Stands}
use Rattle.row_theory.specs.RowTest.{row_sound}
use Rattle.row_exports.specs.Told.{chosen_of}

-- the memory of a row: its slots and their places, its states, its front and the number held
abbrev pub memory_of : Row → Memory
memory_of row = memory row.slots (places_in row.slots) row.states row.front row.held

-- what a call says of the calls before it: its answer, the number that the rules give by the states after them, and the memory
-- of one call more
pub record RowSays (history : List Call) (call : Call) (t : Told) (m' : Memory) : Type 0 where
  pub answer : t ≡ told_of (reply_of (row_after history) call)
  pub number : t.number ≡ refusal_of (states_after history) call
  pub next : m' ≡ memory_of (row_after (call ∷ history))

-- one of the five calls
pub record RowTold (m : Memory) (call : Call) (t : Told) (m' : Memory) : Type 0 where
  pub answer : t ≡ tested_told (row_sound m) (told_of (reply_of (row_in m) call))
  pub next : m' ≡ cond (row_sound m) (memory_of (after (row_in m) call)) m
  pub says : (history : List Call) → m ≡ memory_of (row_after history) → RowSays history call t m'

-- W7: a victim; asking changes nothing
pub record VictimToldSays (history : List Call) (t : Told) : Type 0 where
  pub answer : t ≡ chosen_of (victim_of (row_after history))
  pub is : VictimSays history any_frame (victim_of (row_after history))

pub record VictimTold (m : Memory) (t : Told) : Type 0 where
  pub answer : t ≡ tested_told (row_sound m) (chosen_of (victim_of (row_in m)))
  pub says : (history : List Call) → m ≡ memory_of (row_after history) → VictimToldSays history t

-- X5: the test itself, 1 or 0: 1 exactly if a fresh row and calls give the memory
pub record RowSoundTold (m : Memory) (r : ℕ) : Type 0 where
  pub answer : r ≡ one (row_sound m)
  pub gives : r ≡ 1 → Stands m
  pub given : (history : List Call) → m ≡ memory_of (row_after history) → r ≡ 1
