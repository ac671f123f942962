-- The referenced page's rank before and after a reference, policy by policy, and LFU's counts after it.
use Rattle.std.specs.Prelude.{ℕ, suc, ◌+◌, ◌<◌, false, ◌≡◌, refl, List, ◌∷◌, length}
use Rattle.std.proofs.Common.{arith, add-one, ◌∙◌}
use Rattle.std.proofs.Math.Bool.{true}
use Rattle.std.proofs.Math.Path.{sym}
use Rattle.std.proofs.Math.Dec.{eqb}
use Rattle.std.proofs.Math.ListN.{set}
use borrow.Author.Tests.{eq-eqb, eqb-false, lt-ltb}
use Rattle.rules.specs.Limits.{references, pages, lru, lfu}
use Rattle.rules.specs.Lists.{times}
use Rattle.rules.specs.Cases.{by_cases}
use Rattle.theory.specs.Policy.{nearness}
use Rattle.kept.specs.Below.{Below}
use Rattle.kept.specs.Rankings.{unranked, frequency, sooner, ranking_of}
use Rattle.kept.specs.Tally.{bump}
use Rattle.kept.specs.Frequencies.{frequencies, frequency_is, times_most}
use Rattle.kept.specs.Memory.{counts_after}
use Rattle.run.specs.Referred.{
  one_more,
  count_in,
  count_stored,
  rank_now,
  rank_next,
  rank_before,
  rank_then,
  counts_then,
}

-- OPT was told how near this reference is, and how near the next one to the same page is
pub record ToldAhead (near next page : ℕ) (to : List ℕ) : Type 0 where
  pub near_is : near ≡ suc (length to)
  pub next_is : next ≡ nearness page to

abbrev pub LooksAhead : ℕ → ℕ → ℕ → ℕ → List ℕ → Type 0
LooksAhead policy near next page to = (policy ≡ lru → ⊥) → (policy ≡ lfu → ⊥) → ToldAhead near next page to

times_again : (x : ℕ) (past : List ℕ) → times x (x ∷ past) ≡ times x past + 1
unfolding times
times_again x past = rw (eq-eqb x x refl, add-one)

module _ (policy page : ℕ) (past to : List ℕ) (fine : page < pages) (good : Below pages past) where
  -- LFU: the table has the page's count
  found : eqb policy lfu ≡ true → count_in (counts_after policy past) page ≡ times page past
  unfolding count_in counts_after
  found d = rw (lt-ltb page pages fine, d) (frequency_is past good page)

  -- and the count has room for one more
  counted : length past < references → eqb policy lfu ≡ true
      → one_more (count_in (counts_after policy past) page) ≡ times page past + 1
  counted few d = omega (arith, found d, times_most page past)

  pub counts_then_law : length past < references
      → counts_then policy page (counts_after policy past) ≡ counts_after policy (page ∷ past)
  unfolding counts_then count_stored
  counts_then_law few =
      by_cases (eqb policy lfu) (λ d. rw (d, lt-ltb page pages fine, counted few d) (more d)) (λ d. rw d (none d))
    where
      more : eqb policy lfu ≡ true
          → set (counts_after policy past) page (times page past + 1) ≡ counts_after policy (page ∷ past)
      more d = unfold counts_after frequencies bump in rw (d, frequency_is past good page)

      none : eqb policy lfu ≡ false → counts_after policy past ≡ counts_after policy (page ∷ past)
      none d = unfold counts_after in rw d

  module _ (near next : ℕ) (looks : LooksAhead policy near next page to) where
    told : eqb policy lru ≡ false → eqb policy lfu ≡ false → ToldAhead near next page to
    told e d = looks (eqb-false policy lru e) (eqb-false policy lfu d)

    pub rank_before_law : rank_before policy page near (counts_after policy past) ≡ ranking_of policy past (page ∷ to) page
    unfolding rank_before rank_now ranking_of unranked frequency sooner nearness
    rank_before_law =
        by_cases (eqb policy lru) (λ e. rw e)
        (λ e. by_cases (eqb policy lfu) (λ d. rw (e, d, found d))
        (λ d. rw (e, d, (told e d).near_is, eq-eqb page page refl)))

    pub rank_then_law : length past < references
        → rank_then policy page near next (counts_after policy past) ≡ ranking_of policy (page ∷ past) to page
    unfolding rank_then rank_now rank_next ranking_of unranked frequency sooner
    rank_then_law few =
        by_cases (eqb policy lru) (λ e. rw e)
        (λ e. by_cases (eqb policy lfu) (λ d. rw (e, d) (counted few d ∙ sym (times_again page past)))
        (λ d. rw (e, d) (told e d).next_is))
