-- One pass counts for every capacity at once (Mattson 1970). The theorems of demand D3, over any policy whose priority is an
-- order at every moment; Order.antt shows that LRU, LFU and OPT are such policies.
use Rattle.std.specs.Prelude.{ℕ, zero, suc, ◌+◌, ◌≤◌, true, ◌≡◌, eqb, length, take}
use Rattle.std.proofs.Common.{arith, ◌∙◌, length-take}
use Rattle.std.proofs.Math.Path.{refl}
use mathlib.Core.List.{List, [], ◌∷◌}
use Rattle.rules.specs.Lists.{holds, times, one}
use Rattle.theory.specs.Priority.{Policy, Order}
use Rattle.theory.specs.Plain.{cache_after, hits_after, misses_after}
use Rattle.theory.specs.OnePass.{list_after, unlimited, depth, within, depth_hits}
use Rattle.theory.proofs.Bags.{Same, same_holds, same_times}
use Rattle.theory.proofs.SameStep.{same_step}
use Rattle.theory.proofs.Once.{cache_once}
use Rattle.theory.proofs.Depth.{depth_within}
use Rattle.theory.proofs.Cut.{first_places, list_cut}
use Rattle.rules.specs.Cases.{by_cases, clash}

-- a policy whose priority is an order at every moment
abbrev pub Orders : Policy → Type 0
Orders policy = (past to : List ℕ) → Order (policy past to)

pub same_after : (policy : Policy) → Orders policy → (c : ℕ) (past to : List ℕ)
    → Same (take (suc c) (unlimited policy past to)) (cache_after policy (suc c) past to)
unfolding unlimited cache_after
same_after policy o c [] to = record { sums = λ f. refl }
same_after policy o c (x ∷ past) to =
    same_step (policy past to) (o past to) c x (unlimited policy past (x ∷ to)) (cache_after policy (suc c) past (x ∷ to))
    (same_after policy o c past (x ∷ to))

-- more places hold no fewer pages
holds_more : (p c d : ℕ) (l : List ℕ) → c ≤ d → holds p (take c l) ≡ true → holds p (take d l) ≡ true
unfolding holds
holds_more p zero d l high h = clash h refl
holds_more p (suc c) zero l high h = absurd (omega arith)
holds_more p (suc c) (suc d) [] high h = h
holds_more p (suc c) (suc d) (z ∷ l) high h =
    by_cases (eqb z p) (λ e. rw e) (λ e. rw e (holds_more p c d l (omega arith) (rw e at h)))

module _ (policy : Policy) (o : Orders policy) where
  same_places : (c k : ℕ) → 1 ≤ c → c ≤ k → (past to : List ℕ)
      → Same (take c (list_after policy k past to)) (cache_after policy c past to)
  same_places zero k low high past to = absurd (omega arith)
  same_places (suc c) k low high past to =
      rw (first_places policy (suc c) k past to high) (same_after policy o c past to)

  -- 1. a page is among the first c places exactly if the plain cache of c frames holds it
  pub list_is_cache : (c k : ℕ) → 1 ≤ c → c ≤ k → (past to : List ℕ) (p : ℕ)
      → holds p (take c (list_after policy k past to)) ≡ holds p (cache_after policy c past to)
  list_is_cache c k low high past to p = same_holds p (same_places c k low high past to)

  pub no_page_twice : (c k : ℕ) → 1 ≤ c → c ≤ k → (past to : List ℕ) (p : ℕ) → times p (take c (list_after policy k past to)) ≤ 1
  no_page_twice c k low high past to p =
      rw (same_times p (same_places c k low high past to)) (cache_once policy c past to p)

  pub at_most : (k : ℕ) (past to : List ℕ) → length (list_after policy k past to) ≤ k
  at_most k past to = rw (list_cut policy k past to, length-take k (unlimited policy past to)) (omega arith)

  -- 2. a reference is a hit at c by its depth exactly if the plain cache held the page just before it
  pub hit_by_depth : (c k : ℕ) → 1 ≤ c → c ≤ k → (x : ℕ) (past to : List ℕ)
      → within (depth x (list_after policy k past to)) c ≡ holds x (cache_after policy c past to)
  hit_by_depth c k low high x past to =
      depth_within x c (list_after policy k past to) ∙ list_is_cache c k low high past to x

  pub hits_by_depth : (c k : ℕ) → 1 ≤ c → c ≤ k → (past to : List ℕ) → depth_hits policy k c past to ≡ hits_after policy c past to
  unfolding depth_hits hits_after
  hits_by_depth c k low high [] to = refl
  hits_by_depth c k low high (x ∷ past) to =
      rw (hits_by_depth c k low high past (x ∷ to), hit_by_depth c k low high x past (x ∷ to))

  -- 3. small caches are included in large ones
  pub inclusion : (c d : ℕ) → 1 ≤ c → c ≤ d → (past to : List ℕ) (p : ℕ)
      → holds p (cache_after policy c past to) ≡ true → holds p (cache_after policy d past to) ≡ true
  inclusion c d low high past to p h =
      rw (← list_is_cache d d (omega arith) (omega arith) past to p)
      (holds_more p c d (list_after policy d past to) high (list_is_cache c d low high past to p ∙ h))

-- 4. A5: hits and misses add up to the references, for any policy
pub hits_and_misses : (policy : Policy) (c : ℕ) (past to : List ℕ)
    → hits_after policy c past to + misses_after policy c past to ≡ length past
unfolding hits_after misses_after one
hits_and_misses policy c [] to = refl
hits_and_misses policy c (x ∷ past) to =
    by_cases (holds x (cache_after policy c past (x ∷ to))) (λ e. rw e (omega (arith, hits_and_misses policy c past (x ∷ to))))
    (λ e. rw e (omega (arith, hits_and_misses policy c past (x ∷ to))))
