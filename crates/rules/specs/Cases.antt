-- Case distinction on a test that keeps what the test said; both halves of a test.
use Rattle.std.specs.Prelude.{ℕ, Bool, true, false, ◌&&◌, ◌≡◌, refl}
use Rattle.std.proofs.Common.{arith}

pub by_cases : {A : Type 0} (b : Bool) → (b ≡ true → A) → (b ≡ false → A) → A
by_cases true t f = t refl
by_cases false t f = f refl

-- a test does not say both
pub clash : {A : Type 0} {b : Bool} → b ≡ true → b ≡ false → A
clash t f = let z : ◌≡◌ {A = ℕ} 0 1 = cc in absurd (omega arith)

pub and_left : (a b : Bool) → (a && b) ≡ true → a ≡ true
and_left true b e = refl
and_left false b e = e

pub and_right : (a b : Bool) → (a && b) ≡ true → b ≡ true
and_right true b e = e
and_right false true e = refl
and_right false false e = e
