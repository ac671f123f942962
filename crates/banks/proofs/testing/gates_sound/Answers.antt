-- `banks::testing::gates_sound`: all banks, one by one.
use Rattle.std.proofs.Common.{rules, ◌∙◌, refl}
use Rattle.bank_theory.specs.BankTest.{bank_sound}
use Rattle.std.proofs.lemmas.Iterator.Search.{all_from_yields_List}
use Rattle.std.proofs.lemmas.Iterator.{YieldsList-from_range}
use Rattle.rules.specs.AllBelow.{all_listed}
use Rattle.banks.proofs.testing.gates_sound.Goals as goal

pub returns : goal.returns
returns c =
    all_from_yields_List (bank_sound c.args.gates.now c.args.states.now) _ _ c.all.result c.all.ensures.ran
    (YieldsList-from_range 0 4 4 refl refl) (λ x b q called. search rules)
    ∙ all_listed (bank_sound c.args.gates.now c.args.states.now) 4
