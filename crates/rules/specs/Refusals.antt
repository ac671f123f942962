-- The refusal numbers (docs/RULES.md, R1 to R40), and what an answer that may be a refusal says.
use Rattle.std.specs.Prelude.{ℕ, suc, Bool, cond, List, [], ◌∷◌, leb, Result, Ok, Err}
use Rattle.rules.specs.Limits.{pages}
use Rattle.rules.specs.declared.refusal.Refusal.{Refusal}
use Rattle.rules.specs.declared.refusal.Refusal.TheVariants.{BadLimit, TooManyReferences, BadPage, ShortTable, BadPolicy}
use Rattle.rules.specs.declared.refusal.Refusal.TheVariants.{SessionFull, BadCapacity, CutFile, BadCapacities, BytesLeft}
use Rattle.rules.specs.declared.refusal.Refusal.TheVariants.{PastTheTrace, BadFrame, HeldAlready, NotHeld, BusyFrame}
use Rattle.rules.specs.declared.refusal.Refusal.TheVariants.{IdleFrame, RowFull, NothingHeld, AllBusy, WrongBankState}
use Rattle.rules.specs.declared.refusal.Refusal.TheVariants.{BankBusy, BadBank, BankNotOpen, Unsound}

abbrev pub bad_limit : ℕ
bad_limit = 1

abbrev pub too_many_references : ℕ
too_many_references = 2

abbrev pub bad_page : ℕ
bad_page = 3

abbrev pub short_table : ℕ
short_table = 4

abbrev pub bad_policy : ℕ
bad_policy = 5

abbrev pub session_full : ℕ
session_full = 6

abbrev pub bad_capacity : ℕ
bad_capacity = 7

abbrev pub cut_file : ℕ
cut_file = 8

abbrev pub bad_capacities : ℕ
bad_capacities = 9

abbrev pub bytes_left : ℕ
bytes_left = 10

abbrev pub past_the_trace : ℕ
past_the_trace = 14

abbrev pub bad_frame : ℕ
bad_frame = 20

abbrev pub held_already : ℕ
held_already = 21

abbrev pub not_held : ℕ
not_held = 22

abbrev pub busy_frame : ℕ
busy_frame = 23

abbrev pub idle_frame : ℕ
idle_frame = 24

abbrev pub row_full : ℕ
row_full = 25

abbrev pub nothing_held : ℕ
nothing_held = 26

abbrev pub all_busy : ℕ
all_busy = 27

abbrev pub wrong_bank_state : ℕ
wrong_bank_state = 30

abbrev pub bank_busy : ℕ
bank_busy = 31

abbrev pub bad_bank : ℕ
bad_bank = 32

abbrev pub bank_not_open : ℕ
bank_not_open = 33

-- at the C boundary alone
abbrev pub unsound : ℕ
unsound = 40

-- A1: each refusal has one number
abbrev pub refusal_number : Refusal → ℕ
refusal_number BadLimit = bad_limit
refusal_number TooManyReferences = too_many_references
refusal_number (BadPage i) = bad_page
refusal_number ShortTable = short_table
refusal_number BadPolicy = bad_policy
refusal_number SessionFull = session_full
refusal_number BadCapacity = bad_capacity
refusal_number CutFile = cut_file
refusal_number BadCapacities = bad_capacities
refusal_number BytesLeft = bytes_left
refusal_number PastTheTrace = past_the_trace
refusal_number BadFrame = bad_frame
refusal_number HeldAlready = held_already
refusal_number NotHeld = not_held
refusal_number BusyFrame = busy_frame
refusal_number IdleFrame = idle_frame
refusal_number RowFull = row_full
refusal_number NothingHeld = nothing_held
refusal_number AllBusy = all_busy
refusal_number WrongBankState = wrong_bank_state
refusal_number BankBusy = bank_busy
refusal_number BadBank = bad_bank
refusal_number BankNotOpen = bank_not_open
refusal_number Unsound = unsound

-- A1, R3: and a place, which is the index of a bad page, and 0 for all else
abbrev pub refusal_place : Refusal → ℕ
refusal_place BadLimit = 0
refusal_place TooManyReferences = 0
refusal_place (BadPage i) = i
refusal_place ShortTable = 0
refusal_place BadPolicy = 0
refusal_place SessionFull = 0
refusal_place BadCapacity = 0
refusal_place CutFile = 0
refusal_place BadCapacities = 0
refusal_place BytesLeft = 0
refusal_place PastTheTrace = 0
refusal_place BadFrame = 0
refusal_place HeldAlready = 0
refusal_place NotHeld = 0
refusal_place BusyFrame = 0
refusal_place IdleFrame = 0
refusal_place RowFull = 0
refusal_place NothingHeld = 0
refusal_place AllBusy = 0
refusal_place WrongBankState = 0
refusal_place BankBusy = 0
refusal_place BadBank = 0
refusal_place BankNotOpen = 0
refusal_place Unsound = 0

-- what a call answers that gives back nothing but lent memory
abbrev pub Answer : Type 0
Answer = Result (Unit {0}) Refusal

abbrev pub accepted : Answer
accepted = Ok tt

-- what the paper's words "number" and "place" are for each case of an answer; 0 stands for "no refusal"
abbrev pub number_of : {A : Type 0} → Result A Refusal → ℕ
number_of (Ok a) = 0
number_of (Err r) = refusal_number r

abbrev pub place_of : {A : Type 0} → Result A Refusal → ℕ
place_of (Ok a) = 0
place_of (Err r) = refusal_place r

-- A2: of several refusals that apply the first is given, so an order of refusals is a chain of these
abbrev pub refuse_if : Bool → Refusal → Answer → Answer
refuse_if broken refusal rest = cond broken (Err refusal) rest

-- R3, A1: the place of a bad page is its index, from 0; `i` references stand before these
unfoldable pub first_bad_page : ℕ → List ℕ → Answer → Answer
first_bad_page i [] rest = rest
first_bad_page i (p ∷ trace) rest = cond (leb pages p) (Err (BadPage i)) (first_bad_page (suc i) trace rest)

-- one thing where a call was accepted, another where it was refused
abbrev pub when_accepted : {A : Type 0} → Answer → A → A → A
when_accepted (Ok u) a b = a
when_accepted (Err r) a b = b

-- what an accepted call gives, or its refusal
abbrev pub giving : {A : Type 0} → Answer → A → Result A Refusal
giving (Ok u) a = Ok a
giving (Err r) a = Err r
