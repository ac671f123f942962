-- The row under banks (docs/RULES.md, B1 to B5): its whole state, what each call makes of it, and what each call answers.
use Rattle.std.specs.Prelude.{ℕ, Bool, cond, List, map, Result, Ok, Err}
use Rattle.std.specs.Result.{result_and}
use Rattle.rules.specs.declared.Frame.{Frame}
use Rattle.rules.specs.declared.refusal.Refusal.{Refusal}
use Rattle.rules.specs.declared.refusal.Refusal.TheVariants.{BankNotOpen}
use Rattle.row_theory.specs.States.{held_in}
use Rattle.row_theory.specs.Slots.{empty}
use Rattle.row_theory.specs.Row.{Row, empty_row, after, reply_of, victim_among}
use Rattle.bank_theory.specs.Banks.{Step, of_frame, of_bank, in_bank, in_open, fresh_banks, gating_verdict, cuts}
use Rattle.bank_theory.specs.Banks.{shut, states_without, banks_under}

-- the whole state: the row, and the states of all banks
pub record Gated : Type 0 where
  pub row : Row
  pub banks : List ℕ

-- B1: a fresh row, and fresh banks
unfoldable pub fresh_gated : Gated
fresh_gated = record { row = empty_row; banks = fresh_banks }

-- B2: the slots of frames that leave together are emptied
unfoldable pub slots_without : (ℕ → Bool) → List ℕ → List ℕ
slots_without leaves slots = map (λ frame. cond (leaves frame) empty frame) slots

-- B2: the row without them: no squeeze, and the front as it was
unfoldable pub row_without : (ℕ → Bool) → Row → Row
row_without leaves row =
    record {
      slots = slots_without leaves row.slots;
      states = states_without leaves row.states;
      front = row.front;
      held = held_in (states_without leaves row.states);
    }

-- B2, B3: what any call makes of the row: a call that finds its bank not open leaves it, and a cut takes its bank's frames out
unfoldable pub row_under : Gated → Step → Row
row_under gated (of_frame call) = cond (shut gated.banks call) gated.row (after gated.row call)
row_under gated (of_bank gating bank) =
    cond (cuts gated.row.states gated.banks gating bank) (row_without (in_bank bank) gated.row) gated.row

-- A3: and of the whole state; a refusal leaves it as it was
unfoldable pub gated_then : Gated → Step → Gated
gated_then gated step = record { row = row_under gated step; banks = banks_under gated.row.states gated.banks step }

-- A1, B3, B5: what any call answers; a bank call examines no slot
unfoldable pub reply_under : Gated → Step → Result ℕ Refusal
reply_under gated (of_frame call) = cond (shut gated.banks call) (Err BankNotOpen) (reply_of gated.row call)
reply_under gated (of_bank gating bank) = result_and (gating_verdict gated.row.states gated.banks gating bank) (Ok 0)

-- B4: the oldest idle frame in an open bank
abbrev pub victim_under : Gated → Result Frame Refusal
victim_under gated = victim_among (in_open gated.banks) gated.row
