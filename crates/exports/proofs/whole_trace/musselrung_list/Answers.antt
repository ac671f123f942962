-- What `count::list` promises, told in numbers.
use Rattle.exports.specs.Narrow.{list_narrowed}
use Rattle.exports.specs.TraceLaws.{list_refused, list_told}
use Rattle.exports.proofs.whole_trace.musselrung_list.Goals as goal

pub returns-in-Err : goal.returns-in-Err
returns-in-Err c =
    list_refused (list_narrowed c.byte_of.ensures c.list.ensures) _ c.in-Err.refusal c.in-Err.is c.tell-in-Err.ensures

pub returns-in-Ok : goal.returns-in-Ok
returns-in-Ok c =
    rw c.tell.ensures
    (list_told (list_narrowed c.byte_of.ensures c.list.ensures) _ c.in-Ok.listing c.in-Ok.is c.page_numbers.ensures)
