-- `banks::gate`: a refusal, a cut, or a bank closed or opened, each by the law for it.
use Rattle.std.proofs.Common.{rules, sym, ◌∙◌, ◌≡◌, Err}
use Rattle.bank_theory.proofs.GateCallLaws.{gate_bad_bank, gate_wrong, gate_kept, cut_asked}
use Rattle.banks.proofs.gate.Goals as goal

pub returns-then-b-ge-BANKS : goal.returns-then-b-ge-BANKS
returns-then-b-ge-BANKS c = gate_bad_bank c.requires c.if-b-ge-BANKS.true

pub returns-in_err-next : goal.returns-in_err-next
returns-in_err-next c =
    let is : c.from_residual.result ≡ Err c.in_err-next.field-0.0 = search rules in
    rw is (gate_wrong c.requires c.if-b-ge-BANKS.false (sym c.in_err-next.was ∙ c.gated_to.ensures))

pub cut-requires : goal.cut-requires
cut-requires c =
    (cut_asked c.requires c.if-b-ge-BANKS.false (sym c.in_ok-next.was ∙ c.gated_to.ensures) c.if-next-eq-OFF.true).1

pub returns-then-next-eq-OFF : goal.returns-then-next-eq-OFF
returns-then-next-eq-OFF c =
    rw (cut_asked c.requires c.if-b-ge-BANKS.false (sym c.in_ok-next.was ∙ c.gated_to.ensures) c.if-next-eq-OFF.true).0
    c.cut.ensures

pub returns : goal.returns
returns c =
    gate_kept c.requires c.if-b-ge-BANKS.false (sym c.in_ok-next.was ∙ c.gated_to.ensures) c.if-next-eq-OFF.false
    c.store.ensures
