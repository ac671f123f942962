-- What the steps of a call under banks ask and leave (docs/RULES.md, B2, B3).
use Rattle.std.specs.Prelude.{ℕ, zero, suc, ◌+◌, ◌*◌, ◌<◌, ◌≤◌, ◌≡◌, Bool, cond, ◌&&◌, List, leb, ltb, length, get_or}
use Rattle.rules.specs.Limits.{frames, banks, bank_frames}
use Rattle.row_theory.specs.Row.{Row, after}
use Rattle.row_theory.specs.Promise.{Memory, row_in, Stands, asked}
use Rattle.row_theory.specs.declared.Event.TheVariants.{Drop}
use Rattle.bank_theory.specs.Banks.{off, closing, busy_from}
use Rattle.bank_theory.specs.BankPromise.{BankMemory, StandsUnder}
use Rattle.bank_theory.specs.BankTest.{gate_sound}

-- the row after drops of so many frames from a number on
unfoldable pub dropping : ℕ → ℕ → Row → Row
dropping first zero row = row
dropping first (suc more) row = after (dropping first more row) (asked Drop (first + more))

-- B2: the frames of a bank can leave a row that calls give
pub record Leavable (m : Memory) (first : ℕ) : Type 0 where
  pub stands : Stands m
  pub room : first + bank_frames ≤ frames

-- one of them has been dropped
pub record DroppedOne (m : Memory) (frame : ℕ) (m' : Memory) : Type 0 where
  pub row : row_in m' ≡ after (row_in m) (asked Drop frame)
  pub stands : Stands m'

-- so many of them have been dropped
pub record Dropped (m : Memory) (first many : ℕ) (m' : Memory) : Type 0 where
  pub row : row_in m' ≡ dropping first many (row_in m)
  pub stands : Stands m'

-- none of a bank's frames before this one is busy
pub record CalmTo (states : List ℕ) (first at : ℕ) : Type 0 where
  pub more : ℕ
  pub ends : at + more ≡ first + bank_frames
  pub same : busy_from states first bank_frames ≡ busy_from states at more

-- all before it have left the row
pub record DroppedTo (m : Memory) (first at : ℕ) (m' : Memory) : Type 0 where
  pub many : ℕ
  pub is : at ≡ first + many
  pub room : at ≤ first + bank_frames
  pub dropped : Dropped m first many m'

-- the frames of a range
unfoldable pub within : ℕ → ℕ → ℕ → Bool
within first many frame = leb first frame && ltb frame (first + many)

-- so many gates from a frame on have been stored
pub record Stored (gates : List ℕ) (first many state : ℕ) (gates' : List ℕ) : Type 0 where
  pub long : length gates' ≡ length gates
  pub at : (frame : ℕ) → get_or gates' frame off ≡ cond (within first many frame) state (get_or gates frame off)

-- all before it have their bank's state at their gates
pub record StoredTo (gates : List ℕ) (first at state : ℕ) (gates' : List ℕ) : Type 0 where
  pub many : ℕ
  pub is : at ≡ first + many
  pub room : at ≤ first + bank_frames
  pub stored : Stored gates first many state gates'

-- a bank that can be cut, unless a frame of it is busy
pub record Closing (m : BankMemory) (bank : ℕ) : Type 0 where
  pub stands : StandsUnder m
  pub small : bank < banks
  pub gate : get_or m.gates (bank * bank_frames) off ≡ closing

-- one gate has been tested
pub record GateTested (gates states : List ℕ) (first frame : ℕ) (r : Bool) : Type 0 where
  pub is : r ≡ gate_sound gates states first frame
