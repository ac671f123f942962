-- The report of a file from what the file is read as.
use Rattle.std.specs.Prelude.{◌≡◌, List, ℕ, Ok, Err}
use Rattle.rules.specs.Refusals.{refusal_number}
use Rattle.rules.specs.declared.refusal.Refusal.{Refusal}
use Rattle.file_theory.specs.Decoding.{Trace, trace_in}
use Rattle.report_theory.specs.Report.{refused_line, report_for, report}

pub report_refused : (file : List ℕ) (r : Refusal) → trace_in file ≡ Err r → report file ≡ refused_line (refusal_number r)
unfolding report
report_refused file r e = rw e

pub report_accepted : (file : List ℕ) (t : Trace) → trace_in file ≡ Ok t → report file ≡ report_for (Ok t)
unfolding report
report_accepted file t e = rw e
