-- What the pass makes of one more slot, empty or not, is `Packing` again; at its end it is the squeeze.
use Rattle.std.proofs.Common.{arith}
use Rattle.row_theory.proofs.PackingLaws.{packing_start, pack_empty, pack_frame, packed}
use Rattle.row.proofs.slots.squeeze.Goals as goal

pub loop-i-init : goal.loop-i-init
loop-i-init c = packing_start c.requires.long c.requires.index

pub loop-i-preserved-then-frame-lt-FRAMES : goal.loop-i-preserved-then-frame-lt-FRAMES
loop-i-preserved-then-frame-lt-FRAMES c =
    pack_frame c.requires.long c.loop-i.invariant c.loop-i-test.true c.requires.once c.if-frame-lt-FRAMES.true

pub loop-i-preserved : goal.loop-i-preserved
loop-i-preserved c =
    pack_empty c.requires.long c.loop-i.invariant c.loop-i-test.true c.if-frame-lt-FRAMES.false

pub returns : goal.returns
returns c = packed c.requires.long c.loop-i.invariant (omega arith)
