-- A law for each return: what was checked on the way decides the answer and the table.
use Rattle.std.proofs.Common.{rules, sym, Err, ◌≡◌}
use Rattle.count.proofs.CountLaws.{count_limits, count_short, count_bad, count_fit, count_done}
use Rattle.count.proofs.count.Goals as goal

pub returns-in_err-policy : goal.returns-in_err-policy
returns-in_err-policy c =
    let refused : c.from_residual.result ≡ Err c.in_err-policy.field-0.0 = search rules in
    rw refused (count_limits _ _ _ _ c.in_err-policy.ensures)

pub returns-then-hits-k : goal.returns-then-hits-k
returns-then-hits-k c =
    let limits = c.in_ok-policy.ensures in
    count_short _ _ _ _ limits.0 c.if-hits-k.true

pub returns-in_err-all_pages : goal.returns-in_err-all_pages
returns-in_err-all_pages c =
    let limits = c.in_ok-policy.ensures in
    let refused : c.from_residual-in_err-all_pages.result ≡ Err c.in_err-all_pages.field-0.0 = search rules in
    rw refused (count_bad _ _ _ _ limits.0 c.if-hits-k.false (sym c.in_err-all_pages.ensures))

pub run_policy-run-requires : goal.run_policy-run-requires
run_policy-run-requires c =
    let limits = c.in_ok-policy.ensures in
    count_fit _ c.args.policy _ c.args.hits.now limits.0 c.if-hits-k.false (sym c.in_ok-all_pages.ensures)

pub returns : goal.returns
returns c =
    let limits = c.in_ok-policy.ensures in
    count_done _ _ _ _ limits.0 c.if-hits-k.false (sym c.in_ok-all_pages.ensures)
    (rw limits.1 at c.run_policy-run.ensures) c.fill.ensures
