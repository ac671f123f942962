-- The policies in the rules' own words (Q1 to Q3): what the ranks of Policy.antt come to for two pages.
use Rattle.std.specs.Prelude.{ℕ, ◌≤◌, ◌<◌, true, false, ◌≡◌, refl, List, [], ◌∷◌, ◌++◌, eqb, length}
use Rattle.std.proofs.Common.{arith, sym, lt-ltb, eq-eqb, ne_eqb}
use Rattle.rules.specs.Cases.{by_cases, clash}
use Rattle.rules.specs.Lists.{holds, times}
use Rattle.theory.specs.Policy.{smaller, nearness, lru, lfu, opt}
use Rattle.theory.proofs.Order.{by_more_more, by_more_equal}

pub nearness_most : (p : ℕ) (l : List ℕ) → nearness p l ≤ length l
unfolding nearness
nearness_most p [] = omega arith
nearness_most p (z ∷ l) = by_cases (eqb z p) (λ e. rw e (omega arith)) (λ e. rw e (omega (arith, nearness_most p l)))

nearness_none : (p : ℕ) (l : List ℕ) → holds p l ≡ false → nearness p l ≡ 0
unfolding nearness holds
nearness_none p [] h = refl
nearness_none p (z ∷ l) h = by_cases (eqb z p) (λ e. clash refl (rw e at h)) (λ e. rw e (nearness_none p l (rw e at h)))

nearness_some : (p : ℕ) (l : List ℕ) → holds p l ≡ true → 0 < nearness p l
unfolding nearness holds
nearness_some p [] h = clash h refl
nearness_some p (z ∷ l) h = by_cases (eqb z p) (λ e. rw e (omega arith)) (λ e. rw e (nearness_some p l (rw e at h)))

-- the page that comes first in a list has the greater nearness
nearer : (p q : ℕ) (first rest : List ℕ) → holds p first ≡ false → holds q first ≡ false → (q ≡ p → ⊥)
    → nearness q (first ++ (p ∷ rest)) < nearness p (first ++ (p ∷ rest))
unfolding nearness holds
nearer p q [] rest hp hq n = rw (eq-eqb p p refl, ne_eqb p q (λ e. n (sym e))) (omega (arith, nearness_most q rest))
nearer p q (z ∷ first) rest hp hq n =
    by_cases (eqb z p) (λ e. clash refl (rw e at hp))
    (λ e. by_cases (eqb z q) (λ d. clash refl (rw d at hq)) (λ d. rw (e, d) (nearer p q first rest (rw e at hp) (rw d at hq) n)))

-- Q1: the later last reference is higher; `since` has the references after p's last one, and q's came before it
pub lru_words : (p q : ℕ) (since before to : List ℕ) → holds p since ≡ false → holds q since ≡ false → (q ≡ p → ⊥)
    → lru (since ++ (p ∷ before)) to p q ≡ true
unfolding lru
lru_words p q since before to hp hq n =
    by_more_more (λ r. nearness r (since ++ (p ∷ before))) smaller p q (nearer p q since before hp hq n)

-- Q2: more references since the start is higher; equal counts: the smaller page number is higher
pub lfu_words : (p q : ℕ) (past to : List ℕ) → times q past < times p past → lfu past to p q ≡ true
unfolding lfu
lfu_words p q past to h = by_more_more (λ r. times r past) smaller p q h

pub lfu_tie : (p q : ℕ) (past to : List ℕ) → times p past ≡ times q past → p < q → lfu past to p q ≡ true
unfolding lfu smaller
lfu_tie p q past to h l = rw (by_more_equal (λ r. times r past) smaller p q h, lt-ltb p q l)

-- Q3: the sooner next reference is higher; `until` has the references before p's next one, and q's comes after it
pub opt_words : (p q : ℕ) (past until after : List ℕ) → holds p until ≡ false → holds q until ≡ false → (q ≡ p → ⊥)
    → opt past (until ++ (p ∷ after)) p q ≡ true
unfolding opt
opt_words p q past until after hp hq n =
    by_more_more (λ r. nearness r (until ++ (p ∷ after))) smaller p q (nearer p q until after hp hq n)

-- Q3: a page that comes again is above one that does not
pub opt_again : (p q : ℕ) (past to : List ℕ) → holds p to ≡ true → holds q to ≡ false → opt past to p q ≡ true
unfolding opt
opt_again p q past to hp hq =
    by_more_more (λ r. nearness r to) smaller p q (omega (arith, nearness_some p to hp, nearness_none q to hq))

-- Q3: among pages that never come again the smaller page number is higher
pub opt_never : (p q : ℕ) (past to : List ℕ) → holds p to ≡ false → holds q to ≡ false → p < q → opt past to p q ≡ true
unfolding opt smaller
opt_never p q past to hp hq l =
    rw (
      by_more_equal (λ r. nearness r to) smaller p q (omega (arith, nearness_none p to hp, nearness_none q to hq)),
      lt-ltb p q l,
    )
