-- What `count::count` promises, told in numbers.
use Rattle.std.proofs.Common.{◌∙◌}
use Rattle.exports.specs.Narrow.{count_narrowed}
use Rattle.exports.proofs.whole_trace.musselrung_count.Goals as goal

pub returns : goal.returns
returns c =
    let promised = count_narrowed c.byte_of.ensures c.count-answer.ensures in
    record { answered = c.tell_answer.ensures ∙ rw promised.answer; table = promised.table }
