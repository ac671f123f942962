-- A number handed on in a narrower kind (docs/RULES.md, X1): what is the same of all numbers past the kind's largest is the
-- same of the number that is handed on.
use Rattle.std.specs.Prelude.{ℕ, ◌≤◌, min, ◌≡◌, leb}
use Rattle.std.proofs.Common.{arith, leb-true, leb-false}
use Rattle.rules.specs.Cases.{by_cases}

pub narrow : {A : Type 0} (f : ℕ → A) (most n : ℕ) → (most ≤ n → f most ≡ f n) → f (min n most) ≡ f n
narrow f most n far =
    by_cases (leb most n)
    (λ e.
    let cut : min n most ≡ most = omega (arith, leb-true most n e) in
    rw cut (far (leb-true most n e)))
    (λ e.
    let whole : min n most ≡ n = omega (arith, leb-false most n e) in
    rw whole)
