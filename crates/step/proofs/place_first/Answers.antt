-- Place 1 takes the new entry; the rest of the list is carried down as a part.
use Rattle.std.proofs.Common.{◌+◌, ◌-◌, ◌≡◌, length, drop, set, length-take, length-set, arith}
use Rattle.step.proofs.FirstPlace.{place_empty, place_first, place_missing, place_found, part_depth}
use Rattle.step.proofs.place_first.Goals as goal

pub returns-then-list-eq0 : goal.returns-then-list-eq0
returns-then-list-eq0 c = place_empty c.if-list-eq0.true

pub returns-then-first-old : goal.returns-then-first-old
returns-then-first-old c = place_first (omega arith) c.if-first-old.true

pub returns-in-Break : goal.returns-in-Break
returns-in-Break c =
    let list = set c.args.list.now 0 c.args.new in
    let one_deeper : c.saturating_add.result ≡ c.in-Break.depth + 1 =
    omega (
      arith,
      c.saturating_add.ensures,
      part_depth c.in-Break.ensures,
      length-take (length list - 1) (drop 1 list),
      length-set c.args.list.now 0 c.args.new,
    ) in
    rw one_deeper (place_found (omega arith) c.if-first-old.false c.in-Break.ensures)

pub returns-in-Continue : goal.returns-in-Continue
returns-in-Continue c = place_missing (omega arith) c.if-first-old.false c.in-Continue.ensures
