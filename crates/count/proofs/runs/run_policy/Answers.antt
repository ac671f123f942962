-- LRU and LFU look nothing up; OPT has what one pass from the trace's end found.
use Rattle.std.proofs.Common.{replicate}
use Rattle.rules.specs.Limits.{references}
use Rattle.count.specs.OptLaws.{ahead_followable}
use Rattle.count.proofs.runs.run_policy.Goals as goal

pub follow-requires-in-Opt : goal.follow-requires-in-Opt
follow-requires-in-Opt c = ahead_followable (replicate references 0) c.requires c.look_ahead.ensures
