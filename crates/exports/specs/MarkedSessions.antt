-- The marked case P17 (docs/RULES.md, "Cases"): what is told of memory that nobody started a session in, and of one that was.
-- What is wanted stands in the rules' own numbers.
use Rattle.std.specs.Prelude.{ℕ, ◌≡◌, refl, List, [], ◌∷◌, replicate}
use Rattle.rules.specs.Case.{Case, gotten, wished}
use Rattle.rules.specs.Told.{Told, tested_told}
use Rattle.kept.specs.Tally.{up_to}
use Rattle.session.specs.declared.Session.{Session}
use Rattle.session.specs.History.{reference_answer, capacity_answer}
use Rattle.session.specs.Tests.{fits, total, adds_up, countable}
use Rattle.session.specs.AnyMemory.{misses_in}
use Rattle.exports.specs.Told.{told_with}

-- policy, K, places in use, references
abbrev session : ℕ → ℕ → ℕ → ℕ → Session
session policy k length references = record { policy = policy; k = k; length = length; references = references }

abbrev shown : Told → List ℕ
shown t = t.number ∷ t.value ∷ []

-- the number that a reference to a page is told, its depth left aside; and the misses at a capacity
unfoldable pub refer_told : Session → ℕ → List ℕ
unfolding fits
refer_told s page = shown (tested_told (fits s) (told_with (reference_answer s.references page) 0))

unfoldable pub misses_told : Session → List ℕ → ℕ → List ℕ
unfolding fits adds_up total up_to
misses_told s depths c =
    shown (tested_told (countable s depths) (told_with (capacity_answer s.k c) (misses_in s depths c)))

abbrev pub p17 : Case
p17 =
    record {
      got =
          refer_told (session 0 0 0 0) 7
          ∷ refer_told (session 2 5 0 0) 7
          ∷ refer_told (session 0 65 0 0) 7
          ∷ refer_told (session 1 5 6 9) 7
          ∷ refer_told (session 1 5 5 4097) 7
          ∷ refer_told (session 1 5 5 4096) 7
          ∷ refer_told (session 1 5 5 9) 65543
          ∷ refer_told (session 1 5 5 9) 7
          ∷ misses_told (session 0 5 0 1) (replicate 65 0) 1
          ∷ misses_told (session 0 5 0 0) (replicate 65 0) 1
          ∷ misses_told (session 0 5 0 0) (replicate 65 0) 6
          ∷ [];
      wanted =
          (40 ∷ 0 ∷ [])
          ∷ (40 ∷ 0 ∷ [])
          ∷ (40 ∷ 0 ∷ [])
          ∷ (40 ∷ 0 ∷ [])
          ∷ (40 ∷ 0 ∷ [])
          ∷ (6 ∷ 0 ∷ [])
          ∷ (3 ∷ 0 ∷ [])
          ∷ (0 ∷ 0 ∷ [])
          ∷ (40 ∷ 0 ∷ [])
          ∷ (0 ∷ 0 ∷ [])
          ∷ (7 ∷ 0 ∷ [])
          ∷ [];
    }

pub p17_holds : gotten p17 ≡ wished p17
unfolding refer_told misses_told
p17_holds = refl
