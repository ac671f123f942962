-- A step back from the trace's end finds the next reference to one page, and notes where that page was seen.
use Rattle.std.proofs.Common.{◌-◌, refl, arith}
use Rattle.count.specs.OptLaws.{ahead_start, ahead_next, ahead_page}
use Rattle.count.proofs.runs.look_ahead.Goals as goal

pub loop-i-init : goal.loop-i-init
loop-i-init c = ahead_start refl

pub bounds-coming-page : goal.bounds-coming-page
bounds-coming-page c = ahead_page c.requires (c.loop-i.i - 1) (omega arith)

pub bounds-coming-page-in-loop-i : goal.bounds-coming-page-in-loop-i
bounds-coming-page-in-loop-i c = ahead_page c.requires (c.loop-i.i - 1) (omega arith)

pub loop-i-preserved : goal.loop-i-preserved
loop-i-preserved c = ahead_next c.requires (c.loop-i.i - 1) c.loop-i.i (omega arith) c.loop-i.invariant
