-- With the front at 0 the squeeze and then the store, else the store alone.
use Rattle.std.proofs.Common.{arith}
use Rattle.row_theory.proofs.LendingLaws.{squeezed_inside, seat_squeezing, seat_storing}
use Rattle.row.proofs.slots.seat.Goals as goal

pub overflow_sub-room : goal.overflow_sub-room
overflow_sub-room c = omega (arith, (squeezed_inside c.requires).0, c.squeeze-room.ensures.front)

pub take_slot-requires : goal.take_slot-requires
take_slot-requires c =
    let inside = squeezed_inside c.requires in
    (omega (arith, inside.0, inside.1, c.squeeze-room.ensures.front), c.requires.small)

pub returns-then-at-eq0 : goal.returns-then-at-eq0
returns-then-at-eq0 c = seat_squeezing c.requires c.if-at-eq0.true c.squeeze-room.ensures c.take_slot.ensures

pub returns : goal.returns
returns c = seat_storing c.requires c.if-at-eq0.false c.take_slot-2.ensures
