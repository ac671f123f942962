-- `file::read`: each way out is one law of what the section found is read as.
use Rattle.std.proofs.Common.{refl}
use Rattle.file_theory.specs.Answers.{file_refused, trace_missing, not_rising, behind_refused, behind_read}
use Rattle.file.proofs.read.Goals as goal

pub returns-in_err-values : goal.returns-in_err-values
returns-in_err-values c =
    let a = c.args in
    file_refused a.file.now a.capacities.now a.references.now c.from_residual.result _ c.from_residual.ensures.1
    (trace_missing a.file.now _ c.in_err-values.ensures)

pub returns-then-not-rising : goal.returns-then-not-rising
returns-then-not-rising c =
    let a = c.args in
    file_refused a.file.now a.capacities.now a.references.now _ _ refl
    (not_rising c.in_ok-values.ensures c.if-not-rising.ensures)

pub returns-in_err-references : goal.returns-in_err-references
returns-in_err-references c =
    let a = c.args in
    behind_refused c.in_ok-values.ensures a.capacities.now a.references.now c.read_references.new.table c.if-not-rising.ensures
    c.from_residual-in_err-references.result
    _
    c.from_residual-in_err-references.ensures.1
    c.in_err-references.ensures

pub returns : goal.returns
returns c =
    let a = c.args in
    behind_read c.in_ok-values.ensures a.capacities.now a.references.now c.read_references.new.table c.if-not-rising.ensures _ _ _
    c.in_ok-references.ensures
    c.copy_values-capacities.ensures.count
    c.copy_values-capacities.ensures.copied
