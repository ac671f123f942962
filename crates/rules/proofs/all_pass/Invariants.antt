-- Whether every number so far passes.
use Rattle.std.proofs.Common.{ℕ, Bool, ◌≡◌, ◌<◌}
use Rattle.rules.specs.AllBelow.{AllTo}
use Rattle.rules.proofs.all_pass.Given as goal

abbrev pub invariant-loop-i : goal.invariant-loop-i
invariant-loop-i g l =
    (p : ℕ → Bool) → ((i : ℕ) (r : Bool) → i < l.n → goal.F-post g l.test i r → r ≡ p i) → AllTo p l.n l.i l.sound
