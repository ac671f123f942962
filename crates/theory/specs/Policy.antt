-- The three policies (rules Q1 to Q3): a rank for each page, more is higher; equal ranks: the smaller page number is higher.
-- A run is seen from a moment in it: `past` has the references before it, latest first, and `to` those still to come.
use Rattle.std.specs.Prelude.{ℕ, suc, true, false, cond, List, [], ◌∷◌, ltb, eqb, length}
use Rattle.rules.specs.Limits as limits
use Rattle.rules.specs.Lists.{times}
use Rattle.theory.specs.Priority.{Priority, Policy}

-- by this number, more is higher; ties by that order
unfoldable pub by_more : (ℕ → ℕ) → Priority → Priority
by_more rank tie a b = cond (ltb (rank b) (rank a)) true (cond (eqb (rank a) (rank b)) (tie a b) false)

unfoldable pub smaller : Priority
smaller a b = ltb a b

-- How many references there are from the first p in the list to the list's end; 0 if p is not there.
-- On `past` this is the moment of p's last reference; on `to` it is more the sooner p comes again. PolicyWords.antt says in
-- words what it makes of two pages.
unfoldable pub nearness : ℕ → List ℕ → ℕ
nearness p [] = 0
nearness p (z ∷ l) = cond (eqb z p) (suc (length l)) (nearness p l)

-- Q1: the later last reference is higher
unfoldable pub lru : Policy
lru past to = by_more (λ p. nearness p past) smaller

-- Q2: more references since the start is higher
unfoldable pub lfu : Policy
lfu past to = by_more (λ p. times p past) smaller

-- Q3: the sooner next reference is higher
unfoldable pub opt : Policy
opt past to = by_more (λ p. nearness p to) smaller

-- L7: the policy of a number
unfoldable pub policy_of : ℕ → Policy
policy_of n = cond (eqb n limits.lru) lru (cond (eqb n limits.lfu) lfu opt)
