-- A law for each return: what was checked on the way decides the answer and the list.
use Rattle.std.proofs.Common.{rules, sym, Err, ◌≡◌}
use Rattle.count.proofs.ListLaws.{list_limits, list_bad, list_past, list_fit, list_done}
use Rattle.count.proofs.list.Goals as goal

pub returns-in_err-policy : goal.returns-in_err-policy
returns-in_err-policy c =
    let refused : c.from_residual.result ≡ Err c.in_err-policy.field-0.0 = search rules in
    rw refused (list_limits _ _ _ _ c.in_err-policy.ensures)

pub returns-in_err-all_pages : goal.returns-in_err-all_pages
returns-in_err-all_pages c =
    let limits = c.in_ok-policy.ensures in
    let refused : c.from_residual-in_err-all_pages.result ≡ Err c.in_err-all_pages.field-0.0 = search rules in
    rw refused (list_bad _ _ _ _ limits.0 (sym c.in_err-all_pages.ensures))

pub returns-then-trace-t : goal.returns-then-trace-t
returns-then-trace-t c =
    let limits = c.in_ok-policy.ensures in
    list_past _ _ _ _ limits.0 (sym c.in_ok-all_pages.ensures) c.if-trace-t.true

pub run_policy-run-requires : goal.run_policy-run-requires
run_policy-run-requires c =
    let limits = c.in_ok-policy.ensures in
    list_fit _ c.args.policy _ _ limits.0 (sym c.in_ok-all_pages.ensures) c.if-trace-t.false

pub returns : goal.returns
returns c =
    let limits = c.in_ok-policy.ensures in
    list_done _ _ _ _ limits.0 (sym c.in_ok-all_pages.ensures) c.if-trace-t.false
    (rw limits.1 at c.run_policy-run.ensures) c.show-places.ensures
