-- Lists of numbers, pages or frames: is one there, how often, the list without it; and tables of values.
use Rattle.std.specs.Prelude.{ℕ, zero, suc, Bool, true, false, cond, List, [], ◌∷◌, eqb}

unfoldable pub holds : ℕ → List ℕ → Bool
holds p [] = false
holds p (z ∷ l) = cond (eqb z p) true (holds p l)

unfoldable pub times : ℕ → List ℕ → ℕ
times p [] = 0
times p (z ∷ l) = cond (eqb z p) (suc (times p l)) (times p l)

-- the list without the first place of a number
unfoldable pub without : ℕ → List ℕ → List ℕ
without p [] = []
without p (z ∷ l) = cond (eqb z p) l (z ∷ without p l)

-- 1 where the test passes: a sum of these counts
unfoldable pub one : Bool → ℕ
one true = 1
one false = 0

-- the values of a function at n numbers from c on
unfoldable pub values_from : (ℕ → ℕ) → ℕ → ℕ → List ℕ
values_from f c zero = []
values_from f c (suc n) = f c ∷ values_from f (suc c) n
