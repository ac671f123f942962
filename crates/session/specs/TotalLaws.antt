-- Sums of tables: one more in a table is one more in its sum, so the depths of a run add up to its references, and so do the
-- counts of its pages.
use Rattle.std.specs.Prelude.{ℕ, zero, suc, ◌+◌, ◌≤◌, ◌<◌, ◌≡◌, refl, List, [], ◌∷◌, eqb, ltb, length, get_or}
use Rattle.std.specs.Prelude.{replicate, sum, take}
use Rattle.std.proofs.lemmas.List.Sums.{sum_by_more}
use Rattle.std.proofs.Common.{take_all, ap, arith, add-one, ◌∙◌, eqb-true, ltb-true, ltb-false, lt-ltb, le-ltb}
use Rattle.std.proofs.lemmas.Bool.{eqb-false}
use Rattle.rules.specs.Limits.{capacities, pages}
use Rattle.rules.specs.Lists.{one}
use Rattle.rules.specs.Cases.{by_cases}
use Rattle.theory.specs.Priority.{Policy}
use Rattle.theory.specs.OnePass.{list_after, depth}
use Rattle.theory.proofs.Depth.{depth_most}
use Rattle.theory.proofs.Theorem.{Orders, at_most}
use Rattle.kept.specs.Below.{Below}
use Rattle.kept.specs.Tally.{bump, bump_same, bump_other, tally, tally_length, zeros_at}
use Rattle.kept.specs.Frequencies.{frequencies, frequencies_length}
use Rattle.session.specs.Tests.{total}

pub total_step : (table : List ℕ) (n : ℕ) → total table (n + 1) ≡ total table n + get_or table n 0
unfolding total
total_step table n = rw (add-one n)

-- all of a table
pub total_all : (table : List ℕ) (n : ℕ) → length table ≡ n → total table n ≡ sum table
unfolding total
total_all table n long = first n (omega arith) ∙ ap sum (take_all n table (omega arith))
  where
    first : (i : ℕ) → i ≤ length table → total table i ≡ sum (take i table)
    first zero h = refl
    first (suc i) h = omega (arith, first i (omega arith), rw add-one at (sum_by_more (λ (x : ℕ). x) table i 0 (omega arith)))

pub zeros_total : (m n : ℕ) → total (replicate m 0) n ≡ 0
unfolding total
zeros_total m zero = refl
zeros_total m (suc n) = rw (zeros_total m n, zeros_at m n)

pub total_bump : (d n : ℕ) (table : List ℕ) → n ≤ length table → total (bump d table) n ≡ total table n + one (ltb d n)
unfolding total one
total_bump d zero table h = rw (le-ltb d 0 (omega arith))
total_bump d (suc n) table h =
    by_cases (eqb n d) (λ e. here (eqb-true n d e) (total_bump d n table (omega arith)))
    (λ e. elsewhere (eqb-false n d e) (total_bump d n table (omega arith)))
  where
    here : n ≡ d → total (bump d table) n ≡ total table n + one (ltb d n)
        → total (bump d table) n + get_or (bump d table) n 0 ≡ total table n + get_or table n 0 + one (ltb d (suc n))
    here e i =
        rw (i, e, bump_same d table (omega arith), le-ltb d d (omega arith), lt-ltb d (suc d) (omega arith)) (omega arith)

    elsewhere : (n ≡ d → ⊥) → total (bump d table) n ≡ total table n + one (ltb d n)
        → total (bump d table) n + get_or (bump d table) n 0 ≡ total table n + get_or table n 0 + one (ltb d (suc n))
    elsewhere ne i =
        by_cases (ltb d n)
        (λ e. rw (i, bump_other d n table ne, e, lt-ltb d (suc n) (omega (arith, ltb-true d n e))) (omega arith))
        (λ e. rw (i, bump_other d n table ne, e, le-ltb d (suc n) (omega (arith, ltb-false d n e))) (omega arith))

-- a number inside the table, and all of the table
pub total_one_more : (d n : ℕ) (table : List ℕ) → length table ≡ n → d < n → total (bump d table) n ≡ total table n + 1
unfolding one
total_one_more d n table long h = total_bump d n table (omega arith) ∙ rw (lt-ltb d n h)

pub tally_total : (policy : Policy) → Orders policy → (k : ℕ) → k ≤ capacities → (past to : List ℕ)
    → total (tally policy k past to) (suc capacities) ≡ length past
unfolding tally
tally_total policy o k h [] to = zeros_total (suc capacities) (suc capacities)
tally_total policy o k h (x ∷ past) to =
    let list = list_after policy k past (x ∷ to) in
    omega (
      arith,
      total_one_more (depth x list) (suc capacities) (tally policy k past (x ∷ to)) (tally_length policy k past (x ∷ to))
          (omega (arith, depth_most 0 x list, at_most policy o k past (x ∷ to))),
      tally_total policy o k h past (x ∷ to),
    )

pub frequencies_total : (past : List ℕ) → Below pages past → total (frequencies past) pages ≡ length past
unfolding frequencies
frequencies_total [] h = zeros_total pages pages
frequencies_total (x ∷ past) h =
    omega (
      arith,
      total_one_more x pages (frequencies past) (frequencies_length past) h.0,
      frequencies_total past h.1,
    )
