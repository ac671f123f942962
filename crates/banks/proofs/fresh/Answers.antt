-- `banks::fresh`: the gates that it stores are those of fresh banks, by computation.
use Rattle.std.proofs.Common.{refl}
use Rattle.rules.specs.Lists.{values_from}
use Rattle.bank_theory.specs.BankPromise.{gates_of, banks_in}
use Rattle.bank_theory.proofs.BankCallLaws.{fresh_banks_law}
use Rattle.banks.proofs.fresh.Goals as goal

pub returns : goal.returns
unfolding values_from gates_of banks_in
returns c = fresh_banks_law c.fresh.ensures refl refl
