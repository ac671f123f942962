-- The test of a row under banks in lent memory (docs/RULES.md, X6): the row's test, and a test of each frame's
-- gate, bank by bank. A row under banks passes it exactly if fresh banks and calls give it (proofs/BankTestLaws.antt).
use Rattle.std.specs.Prelude.{ℕ, ◌+◌, ◌*◌, ◌≡◌, Bool, true, cond, ◌&&◌, List, leb, eqb, get_or}
use Rattle.rules.specs.Limits.{bank_frames}
use Rattle.rules.specs.Limits
use Rattle.rules.specs.AllBelow.{all_below}
use Rattle.row_theory.specs.States.{absent, state_of}
use Rattle.row_theory.specs.RowTest.{row_sound}
use Rattle.bank_theory.specs.Banks.{off, closing}
use Rattle.bank_theory.specs.BankPromise.{BankMemory, StandsUnder}

-- a frame's gate is that of the first frame of its bank, and one of the three; where it is off, the frame is absent
unfoldable pub gate_sound : List ℕ → List ℕ → ℕ → ℕ → Bool
gate_sound gates states first frame =
    let gate = get_or gates frame off in
    eqb gate (get_or gates first off)
    && cond (eqb gate off) (eqb (state_of states frame) absent) (leb gate closing)

-- so it is of each frame of a bank
unfoldable pub bank_sound : List ℕ → List ℕ → ℕ → Bool
bank_sound gates states bank =
    all_below (λ n. gate_sound gates states (bank * bank_frames) (bank * bank_frames + n)) bank_frames

unfoldable pub banks_sound : BankMemory → Bool
banks_sound m = row_sound m.row && all_below (bank_sound m.gates m.row.states) Limits.banks

-- what testing banks answers: the test, and so whether fresh banks and calls give them
pub record BanksTested (m : BankMemory) (r : Bool) : Type 0 where
  pub answer : r ≡ banks_sound m
  pub gives : r ≡ true → StandsUnder m
  pub given : StandsUnder m → r ≡ true
