-- The marked case P16 (docs/RULES.md, "Cases"): what a put is told in memory that nobody made a row or banks of, and in a fresh
-- one. What is wanted stands in the rules' own numbers.
use Rattle.std.specs.Prelude.{ℕ, ◌≡◌, refl, List, [], ◌∷◌, replicate}
use Rattle.rules.specs.Case.{Case, gotten, wished}
use Rattle.rules.specs.AllBelow.{all_below}
use Rattle.rules.specs.Lists.{values_from}
use Rattle.rules.specs.Told.{Told, tested_told, told_of}
use Rattle.row_theory.specs.States.{table_at, held_bit, held_in, verdict_of, accepts, refusal_of}
use Rattle.row_theory.specs.Slots.{frames_in, examined_then}
use Rattle.row_theory.specs.Row.{reply_of}
use Rattle.row_theory.specs.Promise.{Memory, memory, row_in, asked}
use Rattle.row_theory.specs.RowTest.{slot_sound, frame_sound, place_sound, room_sound, row_sound}
use Rattle.row_theory.specs.declared.Event.TheVariants.{Put}
use Rattle.bank_theory.specs.Banks.{of_frame, shut_out, in_open}
use Rattle.bank_theory.specs.Gated.{reply_under}
use Rattle.bank_theory.specs.BankPromise.{BankMemory, bank_memory, banks_in, gated_in}
use Rattle.bank_theory.specs.BankTest.{gate_sound, bank_sound, banks_sound}

-- a row of zeros, with this front; a fresh row; and banks over it with these gates
abbrev zeros : ℕ → Memory
zeros front = memory (replicate 64 0) (replicate 64 0) (replicate 64 0) front 0

abbrev fresh_row : Memory
fresh_row = memory (replicate 64 64) (replicate 64 64) (replicate 64 0) 64 0

abbrev shown : Told → List ℕ
shown t = t.number ∷ t.value ∷ []

unfoldable pub put_told : Memory → ℕ → List ℕ
unfolding row_sound slot_sound frame_sound place_sound room_sound all_below frames_in held_in held_bit reply_of accepts
    verdict_of table_at refusal_of examined_then
put_told m frame = shown (tested_told (row_sound m) (told_of (reply_of (row_in m) (asked Put frame))))

unfoldable pub put_told_under : BankMemory → ℕ → List ℕ
unfolding put_told banks_sound bank_sound gate_sound banks_in values_from reply_under shut_out in_open
put_told_under m frame = shown (tested_told (banks_sound m) (told_of (reply_under (gated_in m) (of_frame (asked Put frame)))))

abbrev pub p16 : Case
p16 =
    record {
      got =
          put_told (zeros 0) 5
          ∷ put_told (zeros 1000) 5
          ∷ put_told fresh_row 5
          ∷ put_told fresh_row 261
          ∷ put_told_under (bank_memory (zeros 0) (replicate 64 0)) 5
          ∷ put_told_under (bank_memory fresh_row (replicate 64 3)) 5
          ∷ put_told_under (bank_memory fresh_row (replicate 64 1)) 5
          ∷ put_told_under (bank_memory fresh_row (replicate 64 2)) 5
          ∷ [];
      wanted =
          (40 ∷ 0 ∷ [])
          ∷ (40 ∷ 0 ∷ [])
          ∷ (0 ∷ 0 ∷ [])
          ∷ (20 ∷ 0 ∷ [])
          ∷ (40 ∷ 0 ∷ [])
          ∷ (40 ∷ 0 ∷ [])
          ∷ (0 ∷ 0 ∷ [])
          ∷ (33 ∷ 0 ∷ [])
          ∷ [];
    }

pub p16_holds : gotten p16 ≡ wished p16
unfolding put_told put_told_under
p16_holds = refl
