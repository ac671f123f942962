-- What one backward pass over a trace finds for OPT: for each page the nearness of its next reference, and for each reference
-- the nearness of the next one to the same page.
use Rattle.std.specs.Prelude.{ℕ, zero, suc, ◌<◌, ◌≡◌, refl, List, [], ◌∷◌, eqb, length, get_or, set, drop, replicate}
use Rattle.std.proofs.Common.{arith, sym, ◌∙◌, ap, length-set, get_or-set_same, get_or-set_other, eqb-true}
use Rattle.std.proofs.lemmas.List.{length-replicate}
use Rattle.std.proofs.lemmas.Bool.{eqb-false}
use Rattle.rules.specs.Limits.{pages}
use Rattle.theory.specs.Policy.{nearness}
use Rattle.rules.specs.Cases.{by_cases}
use Rattle.kept.specs.Below.{Below}
use Rattle.kept.specs.Tally.{zeros_at}

-- for each page, before the references `to`
unfoldable pub coming : List ℕ → List ℕ
coming [] = replicate pages 0
coming (x ∷ to) = set (coming to) x (suc (length to))

-- for each of the references `to`, after it
unfoldable pub nexts : List ℕ → List ℕ
nexts [] = []
nexts (x ∷ to) = nearness x to ∷ nexts to

pub coming_length : (to : List ℕ) → length (coming to) ≡ pages
unfolding coming
coming_length [] = length-replicate {A = ℕ} pages 0
coming_length (x ∷ to) = length-set (coming to) x (suc (length to)) ∙ coming_length to

pub coming_is : (to : List ℕ) → Below pages to → (p : ℕ) → get_or (coming to) p 0 ≡ nearness p to
unfolding coming nearness
coming_is [] h p = zeros_at pages p
coming_is (x ∷ to) h p =
    by_cases (eqb x p)
    (λ e. rw (e, ← eqb-true x p e, get_or-set_same (coming to) x (suc (length to)) 0 (omega (arith, h.0, coming_length to))))
    (λ e. rw (e, get_or-set_other (coming to) x p (suc (length to)) 0 (λ q. eqb-false x p e (sym q)), coming_is to h.1 p))

pub nexts_length : (to : List ℕ) → length (nexts to) ≡ length to
unfolding nexts
nexts_length [] = refl
nexts_length (x ∷ to) = ap suc (nexts_length to)

-- the entry at i is the nearness of that reference's page after it
pub nexts_at : (trace : List ℕ) (i : ℕ) → i < length trace
    → get_or (nexts trace) i 0 ≡ nearness (get_or trace i 0) (drop (suc i) trace)
unfolding nexts
nexts_at [] i h = absurd (omega arith)
nexts_at (x ∷ trace) zero h = refl
nexts_at (x ∷ trace) (suc i) h = nexts_at trace i (omega arith)
