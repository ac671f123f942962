-- What the exported calls under banks promise (docs/RULES.md, X1, X6, R40), of any lent memory: where it passes the banks' test,
-- the definitions' answer and memory; where it does not, 40 and the memory as it was. And what that says of memory that fresh
-- banks and calls left.
use Rattle.std.specs.Prelude.{ℕ, ◌≡◌, cond, List, ◌∷◌}
use Rattle.rules.specs.Lists.{one}
use Rattle.rules.specs.Told.{Told, tested_told, told_of}
use Rattle.bank_theory.specs.Banks.{Step, refusal_under}
use Rattle.bank_theory.specs.BankHistory.{seen_after, VictimSaysUnder}
use Rattle.bank_theory.specs.Gated.{Gated, gated_then, reply_under, victim_under}
use Rattle.bank_theory.specs.BankRuns.{gated_after}
use Rattle.bank_theory.specs.BankPromise.{BankMemory, bank_memory, gates_of, gated_in, StandsUnder}
use Rattle.bank_theory.specs.BankTest.{banks_sound}
use Rattle.row_exports.specs.Told.{chosen_of}
use Rattle.row_exports.specs.RowTold.{memory_of}

-- the memory of a row under banks: the row's, and the gate of each frame
abbrev pub memory_under : Gated → BankMemory
memory_under gated = bank_memory (memory_of gated.row) (gates_of gated.banks)

-- what a call says of the calls before it: its answer, the number that the rules give by the states after them, and the memory
-- of one call more
pub record BanksSays (history : List Step) (step : Step) (t : Told) (m' : BankMemory) : Type 0 where
  pub answer : t ≡ told_of (reply_under (gated_after history) step)
  pub number : t.number ≡ refusal_under (seen_after history).states (seen_after history).banks step
  pub next : m' ≡ memory_under (gated_after (step ∷ history))

-- any call, of a frame or of a bank
pub record BanksTold (m : BankMemory) (step : Step) (t : Told) (m' : BankMemory) : Type 0 where
  pub answer : t ≡ tested_told (banks_sound m) (told_of (reply_under (gated_in m) step))
  pub next : m' ≡ cond (banks_sound m) (memory_under (gated_then (gated_in m) step)) m
  pub says : (history : List Step) → m ≡ memory_under (gated_after history) → BanksSays history step t m'

-- B4: a victim; asking changes nothing
pub record OpenVictimToldSays (history : List Step) (t : Told) : Type 0 where
  pub answer : t ≡ chosen_of (victim_under (gated_after history))
  pub is : VictimSaysUnder history (victim_under (gated_after history))

pub record OpenVictimTold (m : BankMemory) (t : Told) : Type 0 where
  pub answer : t ≡ tested_told (banks_sound m) (chosen_of (victim_under (gated_in m)))
  pub says : (history : List Step) → m ≡ memory_under (gated_after history) → OpenVictimToldSays history t

-- X6: the test itself, 1 or 0: 1 exactly if fresh banks and calls give the memory
pub record BanksSoundTold (m : BankMemory) (r : ℕ) : Type 0 where
  pub answer : r ≡ one (banks_sound m)
  pub gives : r ≡ 1 → StandsUnder m
  pub given : (history : List Step) → m ≡ memory_under (gated_after history) → r ≡ 1
