-- Each reference makes of the memory what the definition says.
use Rattle.std.proofs.Common.{refl}
use Rattle.run.proofs.ReferredLaws.{none_done, one_done, taken_by, referred_as}
use Rattle.run.proofs.reference.refer_all.Goals as goal

pub loop-i-init : goal.loop-i-init
loop-i-init c = none_done

pub loop-i-preserved : goal.loop-i-preserved
loop-i-preserved c =
    let taken =
    taken_by c.args.policy c.try_from.result c.unwrap_or-policy.result c.try_from.ensures c.unwrap_or-policy.ensures in
    one_done c.loop-i.invariant refl c.left_at.ensures c.next_at.ensures (referred_as taken c.refer-s.ensures)
