-- The lists of LRU, LFU and OPT can be kept as entries: LRU's by shifting, with no rank at all, the other two by comparing.
use Rattle.std.specs.Prelude.{ℕ, ◌<◌, ◌≡◌, refl, List, [], ◌∷◌, eqb}
use Rattle.std.proofs.Common.{sym, ◌∙◌, ne_eqb}
use Rattle.std.proofs.lemmas.Bool.{eqb-false}
use Rattle.rules.specs.Limits as limits
use Rattle.rules.specs.Lists.{times}
use Rattle.theory.specs.Priority.{Priority}
use Rattle.theory.specs.Policy.{by_more, smaller, nearness, lru, lfu, opt, policy_of}
use Rattle.theory.specs.OnePass.{place, list_after}
use Rattle.theory.proofs.Order.{lru_order, lfu_order, opt_order}
use Rattle.kept.specs.Entries.{larger, always}
use Rattle.kept.specs.EntryLaws.{through, entry_above, carry_same}
use Rattle.kept.specs.Below.{Below, list_below}
use Rattle.kept.specs.Recency.{place_shift, list_sorted, nearness_other}
use Rattle.kept.specs.Rankings.{unranked, frequency, sooner, ranking_of, shown_of}
use Rattle.kept.specs.Kept.{Keeps}
use Rattle.rules.specs.Cases.{by_cases}

place_same : (above above' : Priority) (x : ℕ)
    → ((y z : ℕ) → (y ≡ x → ⊥) → (z ≡ x → ⊥) → y < 65536 → z < 65536 → above y z ≡ above' y z)
    → (l : List ℕ) → Below 65536 l → place above x l ≡ place above' x l
unfolding place
place_same above above' x agree [] hl = refl
place_same above above' x agree (y ∷ l) hl =
    by_cases (eqb y x) (λ e. rw e)
    (λ e. rw (e, carry_same above above' x agree y l (eqb-false y x e) hl.0 hl.1))

times_other : (p x : ℕ) (past : List ℕ) → (p ≡ x → ⊥) → times p (x ∷ past) ≡ times p past
unfolding times
times_other p x past n = rw (ne_eqb x p (λ q. n (sym q)))

by_more_same : (rank rank' : ℕ → ℕ) (tie : Priority) (y z : ℕ) → rank y ≡ rank' y → rank z ≡ rank' z
    → by_more rank tie y z ≡ by_more rank' tie y z
unfolding by_more
by_more_same rank rank' tie y z hy hz = rw (hy, hz)

pub keeps_lru : Keeps lru unranked always
unfolding unranked through always
keeps_lru =
    record {
      orders = lru_order;
      others = λ x past to p n. refl;
      compared = λ k x past to hp. place_shift past (through (λ p. 0) always) (λ y z. refl) to x
          (list_after lru k past (x ∷ to)) (list_sorted k past (x ∷ to));
    }

pub keeps_lfu : Keeps lfu frequency larger
unfolding frequency lfu through
keeps_lfu =
    record {
      orders = lfu_order;
      others = λ x past to p n. times_other p x past n;
      compared = λ k x past to hp. place_same (lfu past to) (through (frequency past (x ∷ to)) larger) x
          (λ y z ny nz hy hz. entry_above (λ p. times p past) y z hy hz)
          (list_after lfu k past (x ∷ to)) (list_below 65536 lfu k past (x ∷ to) hp);
    }

pub keeps_opt : Keeps opt sooner larger
unfolding sooner opt through
keeps_opt =
    record {
      orders = opt_order;
      others = λ x past to p n. sym (nearness_other p x to n);
      compared = λ k x past to hp. place_same (opt past to) (through (sooner past (x ∷ to)) larger) x
          (λ y z ny nz hy hz. by_more_same (λ p. nearness p to) (λ p. nearness p (x ∷ to)) smaller y z
          (sym (nearness_other y x to ny)) (sym (nearness_other z x to nz)) ∙ entry_above (λ p. nearness p (x ∷ to)) y z hy hz)
          (list_after opt k past (x ∷ to)) (list_below 65536 opt k past (x ∷ to) hp);
    }

-- the list of every policy can be kept
pub keeps : (policy : ℕ) → Keeps (policy_of policy) (ranking_of policy) (shown_of policy)
unfolding policy_of ranking_of shown_of
keeps policy =
    by_cases (eqb policy limits.lru) (λ e. rw e keeps_lru)
    (λ e. by_cases (eqb policy limits.lfu) (λ d. rw (e, d) keeps_lfu) (λ d. rw (e, d) keeps_opt))
