-- A block is eight places.
use Rattle.std.proofs.Common.{sym, arith, ◌∙◌}
use Rattle.step.proofs.Places.{free_block}
use Rattle.step.proofs.shifting.passed.Goals as goal

pub loop-i-preserved : goal.loop-i-preserved
loop-i-preserved c =
    free_block c.loop-i.i _ c.loop-i.invariant c.as_chunks.ensures.front (omega arith)
    (sym c.contains.ensures.value ∙ c.if-contains.false)
