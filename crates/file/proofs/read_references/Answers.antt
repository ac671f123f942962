-- `file::read_references`: of the ways out that are left, the first is where no section was found, and the last where all is
-- checked.
use Rattle.file_theory.specs.Answers.{part_refused, references_missing, part_taken}
use Rattle.file.proofs.read_references.Goals as goal

pub returns-in_err-values : goal.returns-in_err-values
returns-in_err-values c =
    let a = c.args in
    part_refused a.part.now a.table.now c.from_residual.result _ c.from_residual.ensures.1
    (references_missing a.part.now _ c.in_err-values.ensures)

pub returns : goal.returns
returns c =
    part_taken c.in_ok-values.ensures c.args.table.now _ _ _ _ c.in_ok-bytes_left.ensures c.in_ok-first_bad_page.ensures
    c.copy_values.ensures.count
    c.copy_values.ensures.copied
