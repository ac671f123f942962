-- The slots that read a frame's number are those of frames.
use Rattle.std.proofs.Common.{rules}
use Rattle.row_theory.proofs.TestStepLaws.{full_counted}
use Rattle.row.proofs.testing.full_in.Goals as goal

pub returns : goal.returns
returns c = full_counted c.args.slots.now (search rules)
