-- A refusal is no acceptance, and asking twice is asking once; what an answer that gives something says.
use Rattle.std.specs.Prelude.{ℕ, Bool, true, false, cond, ◌≡◌, refl, Result, Ok, Err, is_ok}
use Rattle.std.specs.Result.{result_and}
use Rattle.rules.specs.Cases.{clash}
use Rattle.std.proofs.Common.{arith, sym}
use Rattle.rules.specs.Refusals.{Answer, accepted, when_accepted, giving}
use Rattle.rules.specs.declared.refusal.Refusal.{Refusal}

pub not_accepted : {A B : Type 0} {r : Refusal} {b : B} → ◌≡◌ {A = Result B Refusal} (Err r) (Ok b) → A
not_accepted e = let z : ◌≡◌ {A = ℕ} 0 1 = cc in absurd (omega arith)

-- asking twice whether a call was accepted is asking once
pub accepted_twice : {A : Type 0} (answer : Answer) (a b : A)
    → when_accepted answer (when_accepted answer a b) b ≡ when_accepted answer a b
accepted_twice (Ok u) a b = refl
accepted_twice (Err r) a b = refl

-- what is answered says whether it was accepted, and what was given
pub given : {A : Type 0} {a b : A} (answer : Answer) → giving answer a ≡ Ok b → (answer ≡ accepted) × (a ≡ b)
given (Ok u) e = (refl, cc)
given (Err x) e = not_accepted e

pub not_given : {A : Type 0} {x : Refusal} (answer : Answer) (a : A) → giving answer a ≡ Err x → answer ≡ Err x
not_given (Ok u) a e = not_accepted (sym e)
not_given {x = x} (Err y) a e = let same : y ≡ x = cc in rw same

-- two tests about a table: the refusal of the first, then the table's, then that of the last; and if none applies what the table
-- gives
abbrev pub in_order : Bool → Refusal → Bool → Refusal → Result ℕ Refusal → Result ℕ Refusal
in_order past first some last next = cond past (Err first) (result_and next (cond some (Err last) next))

-- none of them stands against what is accepted
pub record Passed (past : Bool) (first : Refusal) (some : Bool) (last : Refusal) (next : Result ℕ Refusal) : Type 0 where
  pub state : ℕ
  pub small : past ≡ false
  pub allowed : next ≡ Ok state
  pub calm : some ≡ false
  pub verdict : in_order past first some last next ≡ Ok state

pub passed : (past : Bool) (first : Refusal) (some : Bool) (last : Refusal) (next : Result ℕ Refusal)
    → is_ok (in_order past first some last next) ≡ true → Passed past first some last next
passed true first some last next e = clash e refl
passed false first some last (Err r) e = clash e refl
passed false first true last (Ok state) e = clash e refl
passed false first false last (Ok state) e =
    record { state = state; small = refl; allowed = refl; calm = refl; verdict = refl }
