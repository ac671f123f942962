-- What the calls of the row under banks promise (docs/RULES.md, D1, A1, A3, B1 to B5), over memory that the caller lends.
use Rattle.std.specs.Prelude.{ℕ, ◌*◌, ◌≡◌, List, ◌∷◌, get_or, Result}
use Rattle.rules.specs.Limits.{frames, bank_frames}
use Rattle.rules.specs.Limits
use Rattle.rules.specs.Lists.{values_from}
use Rattle.rules.specs.declared.Frame.{Frame}
use Rattle.rules.specs.declared.refusal.Refusal.{Refusal}
use Rattle.row_theory.specs.Slots.{places_in}
use Rattle.row_theory.specs.Row.{Row, reply_number, reply_place}
use Rattle.row_theory.specs.Promise.{Memory, row_in}
use Rattle.bank_theory.specs.Banks.{Step, bank_of, off, bank_state, refusal_under}
use Rattle.bank_theory.specs.BankHistory.{seen_after, VictimSaysUnder}
use Rattle.bank_theory.specs.Gated.{Gated, fresh_gated, gated_then, reply_under, victim_under}
use Rattle.bank_theory.specs.BankRuns.{gated_after, ReachedUnder}

-- the memory that the caller lends: a row's, and each frame's gate
pub record BankMemory : Type 0 where
  pub row : Memory
  pub gates : List ℕ

abbrev pub bank_memory : Memory → List ℕ → BankMemory
bank_memory row gates = record { row = row; gates = gates }

-- a frame's gate is the state of its bank, so that no call looks a bank up
unfoldable pub gates_of : List ℕ → List ℕ
gates_of banks = values_from (λ frame. bank_state banks (bank_of frame)) 0 frames

-- the banks whose gates these are: a bank's state is the gate of its first frame
unfoldable pub banks_in : List ℕ → List ℕ
banks_in gates = values_from (λ bank. get_or gates (bank * bank_frames) off) 0 Limits.banks

-- the row and the banks that stand in it
abbrev pub gated_with : Row → List ℕ → Gated
gated_with row gates = record { row = row; banks = banks_in gates }

abbrev pub gated_in : BankMemory → Gated
gated_in m = gated_with (row_in m.row) m.gates

-- they are such as fresh ones and calls give, and all frames of a bank have one gate
pub record ReachedGates (row : Row) (gates : List ℕ) : Type 0 where
  pub reached : ReachedUnder (gated_with row gates)
  pub spread : gates ≡ gates_of (banks_in gates)

-- and the places are those of the row's slots
pub record StandsUnder (m : BankMemory) : Type 0 where
  pub gated : ReachedGates (row_in m.row) m.gates
  pub index : m.row.places ≡ places_in m.row.slots

-- what a reply and the state after it say of a history before the call: the number is the one that the history says (0:
-- accepted), the place is 0, and the state is that of the longer history
pub record ReplySaysUnder (history : List Step) (step : Step) (reply : Result ℕ Refusal) (gated' : Gated) : Type 0 where
  pub number : reply_number reply ≡ refusal_under (seen_after history).states (seen_after history).banks step
  pub place : reply_place reply ≡ 0
  pub next : gated' ≡ gated_after (step ∷ history)

-- any call, of a frame or of a bank: the whole answer and the whole state after it, which again is one that calls give; and what
-- that says of any history that gives the state
pub record AnsweredUnder (m : BankMemory) (step : Step) (reply : Result ℕ Refusal) (m' : BankMemory) : Type 0 where
  pub answer : reply ≡ reply_under (gated_in m) step
  pub next : gated_in m' ≡ gated_then (gated_in m) step
  pub stands : StandsUnder m'
  pub says : (history : List Step) → gated_after history ≡ gated_in m → ReplySaysUnder history step reply (gated_in m')

-- fresh banks, and their row
pub record FreshBanks (m : BankMemory) : Type 0 where
  pub whole : gated_in m ≡ fresh_gated
  pub stands : StandsUnder m

-- B4, R26, R27: the oldest idle frame in an open bank: the whole answer, and what it says of any history that gives the state
pub record OldestOpen (gated : Gated) (victim : Result Frame Refusal) : Type 0 where
  pub answer : victim ≡ victim_under gated
  pub says : (history : List Step) → gated_after history ≡ gated → VictimSaysUnder history victim
