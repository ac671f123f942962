-- Carrying under LRU: the old entry's place is found, and what stands before it moves one place down.
use Rattle.std.proofs.Common.{arith}
use Rattle.step.proofs.CarryAll.{carried_found, carried_missing, carried_empty}
use Rattle.step.proofs.carry_all.Goals as goal

pub returns-in-Some : goal.returns-in-Some
returns-in-Some c = carried_found c.args.old c.in-Some.ensures c.shift_down.ensures

pub returns-then-n-eq0 : goal.returns-then-n-eq0
returns-then-n-eq0 c = carried_empty c.args.old c.args.list.now c.if-n-eq0.true

pub returns : goal.returns
returns c = carried_missing c.args.old c.in_default.ensures (omega (arith, c.if-n-eq0.false)) c.shift_down-2.ensures
