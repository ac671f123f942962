-- `write_trace`: each line goes behind those before it; what is put then is the report of the trace.
use Rattle.std.proofs.Common.{ℕ, List, length, take_all, add-one, subst, arith}
use Rattle.file_theory.specs.Decoding.{Trace}
use Rattle.report_theory.specs.Buffer.{Wrote, then}
use Rattle.report_theory.specs.Lines.{ending_short, table_lines, lines_more}
use Rattle.report_text.specs.Tables.{counted_report}
use Rattle.report_text.proofs.write_trace.Goals as goal

pub loop-capacity-init : goal.loop-capacity-init
unfolding table_lines
loop-capacity-init c = record { put = c.put-at.ensures; room = omega (arith, c.put-at.ensures.place) }

pub loop-capacity-preserved : goal.loop-capacity-preserved
loop-capacity-preserved c =
    let h = c.of-hits.result in
    let i = c.loop-capacity.capacity-index in
    let so_far = c.loop-capacity.invariant in
    let more = lines_more h.lru h.lfu h.opt c.args.capacities.now i (omega arith) in
    record {
      put = rw (add-one i, more) (then (omega (arith, so_far.put.place, so_far.room)) so_far.put c.write_line-at.ensures.line);
      room = omega (arith, so_far.room, c.write_line-at.ensures.room);
    }

pub write_ending-requires : goal.write_ending-requires
write_ending-requires c =
    omega (arith, c.loop-capacity.invariant.room, ending_short (length c.args.references.now) (omega arith))

pub returns : goal.returns
returns c =
    let a = c.args in
    let h = c.of-hits.result in
    let t : Trace = record { caps = a.capacities.now; refs = a.references.now } in
    let so_far = c.loop-capacity.invariant in
    let lines = rw (take_all c.loop-capacity.capacity-index a.capacities.now (omega arith)) at so_far.put in
    subst (λ (text : List ℕ). Wrote 0 text a.out.now c.write_ending.result c.write_ending.new.out)
    (counted_report t h.lru h.lfu h.opt c.requires c.of-hits.ensures)
    (then (omega (arith, so_far.put.place, so_far.room)) lines c.write_ending.ensures)
