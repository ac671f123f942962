-- `banks::victim`: the gates are the marks.
use Rattle.bank_theory.proofs.BankPromiseLaws.{row_reached}
use Rattle.bank_theory.proofs.BankCallLaws.{victim_open}
use Rattle.banks.proofs.victim.Goals as goal

pub victim_among-requires : goal.victim_among-requires
victim_among-requires c = row_reached c.requires.reached

pub returns : goal.returns
returns c = victim_open c.requires c.victim_among.ensures
