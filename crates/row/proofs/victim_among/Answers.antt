-- From the last slot down to the front a frame is found, or none.
use Rattle.std.proofs.Common.{sym}
use Rattle.row_theory.proofs.Scan.{look_inside, look_found, look_nothing, look_busy}
use Rattle.row.proofs.victim_among.Goals as goal

pub slice_bounds-oldest-count : goal.slice_bounds-oldest-count
slice_bounds-oldest-count c = look_inside c.requires

pub slice_bounds-oldest-start : goal.slice_bounds-oldest-start
slice_bounds-oldest-start c = look_inside c.requires

pub returns-in-Some : goal.returns-in-Some
returns-in-Some c = look_found c.args.marks.now c.requires (sym c.in-Some.ensures)

pub returns-in-None : goal.returns-in-None
returns-in-None c = look_nothing c.args.marks.now c.requires (sym c.in-None.ensures) c.if-held-eq0.true

pub returns-in-None-2 : goal.returns-in-None-2
returns-in-None-2 c = look_busy c.args.marks.now c.requires (sym c.in-None-2.ensures) c.if-held-eq0.false
