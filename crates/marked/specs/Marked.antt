-- The marked cases P1 to P15 (docs/RULES.md, "Cases") as one statement over one table: what the definitions give is what the
-- rules say. Where it fails, the theorem of the case alone says which (`p1_holds` to `p15_holds`).
use Rattle.std.specs.Prelude.{◌≡◌, refl, List, [], ◌∷◌, map}
use Rattle.rules.specs.Case.{Case, gotten, wished}
use Rattle.theory.proofs.MarkedCounts.{counted, p1, p2, p3, p4, p5, p6}
use Rattle.count.specs.MarkedAnswers.{refused_as, p7, p8}
use Rattle.row_theory.specs.Runs.{answers_of, victim_after_calls}
use Rattle.bank_theory.specs.BankRuns.{replies_of, victim_after_steps}
use Rattle.bank_theory.proofs.MarkedBanks.{p13, p14, p15}
use Rattle.marked.specs.MarkedRows.{puts, p9, p10, p11, p12}

abbrev pub table : List Case
table = p1 ∷ p2 ∷ p3 ∷ p4 ∷ p5 ∷ p6 ∷ p7 ∷ p8 ∷ p9 ∷ p10 ∷ p11 ∷ p12 ∷ p13 ∷ p14 ∷ p15 ∷ []

pub marked : map gotten table ≡ map wished table
unfolding counted refused_as answers_of victim_after_calls puts replies_of victim_after_steps
marked = refl
