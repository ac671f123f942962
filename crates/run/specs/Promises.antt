-- The promise of references pins the whole answer and all that is kept after them.
use Rattle.std.specs.Prelude.{ℕ, ◌≡◌, List}
use Rattle.std.proofs.Common.{sym, ◌∙◌}
use Rattle.run.specs.ReferredAll.{RunMemory, ReferredAll}

pub referred_once : {policy k left : ℕ} {pages nexts : List ℕ} {m m₁ m₂ : RunMemory} {a b : ℕ}
    → ReferredAll policy k pages nexts left m m₁ a
    → ReferredAll policy k pages nexts left m m₂ b → (a ≡ b) × (m₁ ≡ m₂)
referred_once x y = (x.depth_is ∙ sym y.depth_is, x.memory_is ∙ sym y.memory_is)
