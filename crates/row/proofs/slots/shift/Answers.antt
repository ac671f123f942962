-- Event by event: what each asks of the slots it finds, and what the steps leave.
use Rattle.row_theory.proofs.ShiftLaws.{put_seatable, touch_once, touch_seats, drop_once, asks_as, leaves_as}
use Rattle.row_theory.proofs.ShiftLaws.{shifted_put, touched, shifted_start, shifted_end, dropped}
use Rattle.row.proofs.slots.shift.Goals as goal

pub seat-requires : goal.seat-requires
seat-requires c = put_seatable (asks_as c.in-Put.is c.requires)

pub leave_slot-requires : goal.leave_slot-requires
leave_slot-requires c = (c.requires.indexed, c.requires.ready.small, touch_once (asks_as c.in-Touch.is c.requires))

pub seat-requires-in-Touch : goal.seat-requires-in-Touch
seat-requires-in-Touch c = touch_seats (asks_as c.in-Touch.is c.requires) c.leave_slot.ensures

pub leave_slot-requires-in-Drop : goal.leave_slot-requires-in-Drop
leave_slot-requires-in-Drop c = (c.requires.indexed, c.requires.ready.small, drop_once (asks_as c.in-Drop.is c.requires))

pub returns-in-Put : goal.returns-in-Put
returns-in-Put c = leaves_as c.in-Put.is (shifted_put c.seat.ensures)

pub returns-in-Touch : goal.returns-in-Touch
returns-in-Touch c = leaves_as c.in-Touch.is (touched c.leave_slot.ensures c.seat-in-Touch.ensures)

pub returns-in-Start : goal.returns-in-Start
returns-in-Start c = leaves_as c.in-Start.is (shifted_start (asks_as c.in-Start.is c.requires))

pub returns-in-End : goal.returns-in-End
returns-in-End c = leaves_as c.in-End.is (shifted_end (asks_as c.in-End.is c.requires))

pub returns-in-Drop : goal.returns-in-Drop
returns-in-Drop c = leaves_as c.in-Drop.is (dropped c.leave_slot-in-Drop.ensures)
