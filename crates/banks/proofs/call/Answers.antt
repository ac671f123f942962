-- `banks::call`: shut out, or the row's own call.
use Rattle.std.proofs.Common.{sym, ◌∙◌}
use Rattle.bank_theory.proofs.BankPromiseLaws.{row_stands}
use Rattle.bank_theory.proofs.BankCallLaws.{call_shut, call_through}
use Rattle.banks.proofs.call.Goals as goal

pub returns-then-shut : goal.returns-then-shut
returns-then-shut c = call_shut c.requires (sym c.shut.ensures ∙ c.if-shut.true)

pub call-requires : goal.call-requires
call-requires c = row_stands c.requires

pub returns : goal.returns
returns c = call_through c.requires (sym c.shut.ensures ∙ c.if-shut.false) c.call.ensures
