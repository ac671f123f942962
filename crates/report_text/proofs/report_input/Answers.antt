-- `report_text::report_input`: what came is the front of the buffer, and the buffer has the length that says all of a longer
-- input.
use Rattle.std.proofs.Common.{◌≡◌, suc, length, take, arith}
use Rattle.std.proofs.lemmas.List.{take_min}
use Rattle.file_theory.specs.Format.{longest}
use Rattle.report_theory.specs.Input.{input_printed}
use Rattle.report_text.proofs.report_input.Goals as goal

pub returns : goal.returns
returns c =
    let buffer = c.args.input.now in
    let room : length buffer ≡ suc longest = omega arith in
    let front : take c.min.result buffer ≡ take c.args.n buffer = rw (c.min.ensures, ← room) (take_min c.args.n buffer) in
    input_printed room (rw (← front) c.report.ensures)
