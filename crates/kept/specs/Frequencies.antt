-- The table of counts that LFU keeps: how often each page was referenced.
use Rattle.std.specs.Prelude.{ℕ, ◌≤◌, ◌≡◌, List, [], ◌∷◌, eqb, length, get_or, replicate}
use Rattle.std.proofs.Common.{arith, sym, ◌∙◌, ap, eqb-true}
use Rattle.std.proofs.lemmas.List.{length-replicate}
use Rattle.std.proofs.lemmas.Bool.{eqb-false}
use Rattle.rules.specs.Limits.{pages}
use Rattle.rules.specs.Lists.{times}
use Rattle.rules.specs.Cases.{by_cases}
use Rattle.kept.specs.Below.{Below}
use Rattle.kept.specs.Tally.{bump, bump_length, bump_same, bump_other, zeros_at}

unfoldable pub frequencies : List ℕ → List ℕ
frequencies [] = replicate pages 0
frequencies (x ∷ past) = bump x (frequencies past)

pub frequencies_length : (past : List ℕ) → length (frequencies past) ≡ pages
unfolding frequencies
frequencies_length [] = length-replicate {A = ℕ} pages 0
frequencies_length (x ∷ past) = bump_length x (frequencies past) ∙ frequencies_length past

pub frequency_is : (past : List ℕ) → Below pages past → (p : ℕ) → get_or (frequencies past) p 0 ≡ times p past
unfolding frequencies times
frequency_is [] h p = zeros_at pages p
frequency_is (x ∷ past) h p =
    by_cases (eqb x p)
    (λ e. rw (
      e,
      ← eqb-true x p e,
      bump_same x (frequencies past) (omega (arith, h.0, frequencies_length past)),
      frequency_is past h.1 x,
    ) (omega (arith, ap (λ (q : ℕ). times q past) (eqb-true x p e))))
    (λ e. rw (e, bump_other x p (frequencies past) (λ q. eqb-false x p e (sym q)), frequency_is past h.1 p))

pub times_most : (p : ℕ) (past : List ℕ) → times p past ≤ length past
unfolding times
times_most p [] = omega arith
times_most p (x ∷ past) =
    by_cases (eqb x p) (λ e. rw e (omega (arith, times_most p past))) (λ e. rw e (omega (arith, times_most p past)))
