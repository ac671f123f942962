-- `write_trace`: after i turns the first line and the lines of the first i capacities are put, and no line is longer than the
-- longest.
use Rattle.std.proofs.Common.{◌+◌, ◌*◌, ◌≤◌, ◌++◌, take}
use Rattle.report_theory.specs.Report.{heading}
use Rattle.report_theory.specs.Buffer.{Wrote}
use Rattle.report_theory.specs.Lines.{longest_line, table_lines}
use Rattle.report_text.proofs.write_trace.Given as goal

abbrev pub invariant-loop-capacity : goal.invariant-loop-capacity
invariant-loop-capacity l = record {
  put : Wrote 0 (heading ++ table_lines l.hits.lru l.hits.lfu l.hits.opt (take l.capacity-index l.capacities)) l.fn.out
      l.at l.out;
  room : l.at ≤ 21 + longest_line * l.capacity-index;
}
