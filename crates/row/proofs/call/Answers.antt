-- The verdict, then the steps it allows, each by the law for it.
use Rattle.std.proofs.Common.{◌≡◌, Err, arith, rules}
use Rattle.row_theory.proofs.CallLaws.{known_states, call_refused, call_allowed, call_done}
use Rattle.row.proofs.call.Goals as goal

pub verdict-requires : goal.verdict-requires
verdict-requires c = known_states c.requires

pub returns-in_err-then : goal.returns-in_err-then
returns-in_err-then c =
    let told : c.from_residual.result ≡ Err c.in_err-then.field-0.0 = search rules in
    rw told (call_refused c.requires c.in_err-then.ensures)

pub shift-examined-requires : goal.shift-examined-requires
shift-examined-requires c = (call_allowed c.requires c.in_ok-then.ensures).shiftable

pub bounds-states-f : goal.bounds-states-f
bounds-states-f c = (call_allowed c.requires c.in_ok-then.ensures).shiftable.ready.small

pub bounds-states-f-2 : goal.bounds-states-f-2
bounds-states-f-2 c = (call_allowed c.requires c.in_ok-then.ensures).shiftable.ready.small

pub overflow_add-held : goal.overflow_add-held
overflow_add-held c =
    let allowed = call_allowed c.requires c.in_ok-then.ensures in
    omega (arith, allowed.top, c.held_bit.ensures)

pub overflow_sub-held : goal.overflow_sub-held
overflow_sub-held c =
    let allowed = call_allowed c.requires c.in_ok-then.ensures in
    omega (arith, allowed.bit, c.held_bit-2.ensures)

pub returns : goal.returns
returns c =
    let allowed = call_allowed c.requires c.in_ok-then.ensures in
    call_done allowed c.shift-examined.ensures (omega (arith, allowed.bit, c.held_bit.ensures, c.held_bit-2.ensures))
