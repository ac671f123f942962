-- `banks::cut`: a busy frame forbids it, else each step has its law.
use Rattle.std.proofs.Common.{arith, sym, ◌∙◌}
use Rattle.bank_theory.proofs.BankPromiseLaws.{row_stands}
use Rattle.bank_theory.proofs.GateCallLaws.{cut_busy, cut_done}
use Rattle.banks.proofs.cut.Goals as goal

pub returns-then-busy_from : goal.returns-then-busy_from
returns-then-busy_from c = cut_busy c.requires (sym c.busy_from.ensures ∙ c.if-busy_from.true)

pub leave-requires : goal.leave-requires
leave-requires c = record { stands = row_stands c.requires.stands; room = omega (arith, c.requires.small) }

pub returns : goal.returns
returns c =
    cut_done c.requires (sym c.busy_from.ensures ∙ c.if-busy_from.false) c.leave.ensures c.store.ensures
