-- How many of those so far pass.
use Rattle.std.proofs.Common.{ℕ, Bool, ◌≡◌, ◌<◌, ◌≤◌, take, count_by}
use Rattle.row.proofs.testing.how_many.Given as goal

abbrev pub invariant-loop-x : goal.invariant-loop-x
invariant-loop-x g l =
    (l.n ≤ l.x-index) × ((p : ℕ → Bool) → ((x : ℕ) (r : Bool) → x < 256 → goal.F-post g l.test x r → r ≡ p x) →
    l.n ≡ count_by p (take l.x-index l.list))
