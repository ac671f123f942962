-- The states of frames (docs/RULES.md, W6, O6): the table of three states by five events, and when a call is refused.
use Rattle.std.specs.Prelude.{ℕ, ◌+◌, Bool, true, false, cond, ◌&&◌, List, [], ◌∷◌, leb, eqb, get_or, set, replicate, Result}
use Rattle.std.specs.Prelude.{Ok, Err, is_ok}
use Rattle.std.specs.Result.{result_and}
use Rattle.rules.specs.Limits.{frames, held}
use Rattle.rules.specs.Refusals.{refusal_number, number_of}
use Rattle.rules.specs.declared.refusal.Refusal.{Refusal}
use Rattle.rules.specs.declared.refusal.Refusal.TheVariants.{BadFrame, HeldAlready, NotHeld, BusyFrame, IdleFrame, RowFull}
use Rattle.row_theory.specs.declared.Event.{Event}
use Rattle.row_theory.specs.declared.Event.TheVariants.{Put, Touch, Start, End, Drop}

-- a call: what is asked, and of which frame
pub record Call : Type 0 where
  pub event : Event
  pub frame : ℕ

abbrev pub absent : ℕ
absent = 0

abbrev pub idle : ℕ
idle = 1

abbrev pub busy : ℕ
busy = 2

-- W6 as it is written: rows absent, idle, busy; columns put, touch, start, end, drop. An entry is a next state or a refusal
abbrev pub state_table : List (List (Result ℕ Refusal))
state_table =
    (Ok idle ∷ Err NotHeld ∷ Err NotHeld ∷ Err NotHeld ∷ Err NotHeld ∷ [])
    ∷ (Err HeldAlready ∷ Ok idle ∷ Ok busy ∷ Err IdleFrame ∷ Ok absent ∷ [])
    ∷ (Err HeldAlready ∷ Ok busy ∷ Err BusyFrame ∷ Ok idle ∷ Err BusyFrame ∷ [])
    ∷ []

-- an entry in the rules' own numbers: the next state's, or the refusal's
abbrev pub entry_number : Result ℕ Refusal → ℕ
entry_number (Ok next) = next
entry_number (Err r) = refusal_number r

abbrev pub column : Event → ℕ
column Put = 0
column Touch = 1
column Start = 2
column End = 3
column Drop = 4

-- the table's entry for a state and an event
unfoldable pub table_at : ℕ → Event → Result ℕ Refusal
table_at state event = get_or (get_or state_table state []) (column event) (Ok absent)

-- R21 to R24 and W6 in words: the refusal of an event in a state, or the next state
unfoldable pub rule_of : ℕ → Event → Result ℕ Refusal
rule_of state Put = cond (eqb state absent) (Ok idle) (Err HeldAlready)
rule_of state Touch = cond (eqb state absent) (Err NotHeld) (Ok state)
rule_of state Start = cond (eqb state absent) (Err NotHeld) (cond (eqb state busy) (Err BusyFrame) (Ok busy))
rule_of state End = cond (eqb state absent) (Err NotHeld) (cond (eqb state idle) (Err IdleFrame) (Ok idle))
rule_of state Drop = cond (eqb state absent) (Err NotHeld) (cond (eqb state busy) (Err BusyFrame) (Ok absent))

-- the state of a frame in the list of all frames' states; a number that is no frame's is absent
abbrev pub state_of : List ℕ → ℕ → ℕ
state_of states frame = get_or states frame absent

-- 1 for a frame that is held, 0 for one that is absent
unfoldable pub held_bit : ℕ → ℕ
held_bit state = cond (eqb state absent) 0 1

-- the number of frames held
unfoldable pub held_in : List ℕ → ℕ
held_in [] = 0
held_in (state ∷ states) = held_bit state + held_in states

abbrev pub is_put : Event → Bool
is_put Put = true
is_put Touch = false
is_put Start = false
is_put End = false
is_put Drop = false

-- a put or a touch makes its frame the most recent
abbrev pub moves : Event → Bool
moves Put = true
moves Touch = true
moves Start = false
moves End = false
moves Drop = false

-- the table's entry for a call: a next state or a refusal
abbrev pub cell_of : List ℕ → Call → Result ℕ Refusal
cell_of states call = table_at (state_of states call.frame) call.event

-- O6, the verdict on a call: 20, then a refusal of the table, then 25; and if none applies the state that the table gives its
-- frame
unfoldable pub verdict_of : List ℕ → Call → Result ℕ Refusal
verdict_of states call =
    cond (leb frames call.frame) (Err BadFrame)
    (result_and (cell_of states call)
    (cond (is_put call.event && leb held (held_in states)) (Err RowFull) (cell_of states call)))

unfoldable pub accepts : List ℕ → Call → Bool
accepts states call = is_ok (verdict_of states call)

-- the refusal's number; 0 stands for "no refusal"
unfoldable pub refusal_of : List ℕ → Call → ℕ
refusal_of states call = number_of (verdict_of states call)

-- every frame absent
abbrev pub fresh_states : List ℕ
fresh_states = replicate frames absent

-- the states after a verdict on a call of a frame
abbrev pub states_by : List ℕ → ℕ → Result ℕ Refusal → List ℕ
states_by states frame (Ok next) = set states frame next
states_by states frame (Err r) = states

-- the states after a call: an accepted one gives its frame the table's next state
unfoldable pub states_then : List ℕ → Call → List ℕ
states_then states call = states_by states call.frame (verdict_of states call)
