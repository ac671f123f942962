-- One sum more is written at each capacity; past the last one the table is as it was.
use Rattle.std.proofs.Common.{refl, arith, ap, ◌∙◌, set}
use Rattle.kept.specs.Tally.{up_to}
use Rattle.kept.specs.Filled.{word_step, sums_start, sums_next, sums_end}
use Rattle.kept.proofs.depths.fill.Goals as goal

pub loop-c-init : goal.loop-c-init
unfolding up_to
loop-c-init c = (sums_start _ _, refl)

pub loop-c-preserved : goal.loop-c-preserved
loop-c-preserved c =
    let depths = c.args.depths.now in
    let at = c.loop-c.c in
    let total = word_step depths at c.loop-c.total c.loop-c.invariant.1 in (
      ap (set c.loop-c.hits at) total
          ∙ sums_next depths c.args.hits.now c.loop-c.hits at (omega arith) c.loop-c.invariant.0,
      total,
    )

pub returns : goal.returns
returns c =
    sums_end c.args.depths.now c.args.hits.now c.loop-c.hits c.args.k c.loop-c.c (omega arith) c.loop-c.invariant.0
