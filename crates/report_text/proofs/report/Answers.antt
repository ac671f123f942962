-- `report_text::report`: what the reader's answer tells picks the report that the definition has.
use Rattle.file_theory.specs.Callers.{accepted_says, accepted_handed, refused_says}
use Rattle.report_theory.specs.Outcomes.{report_refused, report_accepted}
use Rattle.report_theory.specs.Buffer.{printed}
use Rattle.report_text.proofs.report.Goals as goal

pub write_trace-requires : goal.write_trace-requires
write_trace-requires c =
    (accepted_handed c.args.file.now c.read.ensures c.in-Ok.counts c.in-Ok.is).good

pub returns-in-Err : goal.returns-in-Err
returns-in-Err c =
    let file = c.args.file.now in
    let told = refused_says file c.read.ensures c.in-Err.refusal c.in-Err.is in
    rw (report_refused file c.in-Err.refusal told) (printed c.write_refused.ensures)

pub returns-in-Ok : goal.returns-in-Ok
returns-in-Ok c =
    let file = c.args.file.now in
    let told = accepted_says file c.read.ensures c.in-Ok.counts c.in-Ok.is in
    rw (report_accepted file _ told) (printed c.write_trace.ensures)
