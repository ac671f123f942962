-- What a list or a cache holds was referenced before, so a first visit is a miss at every capacity; and first visits are as
-- many as there are different pages.
use Rattle.std.specs.Prelude.{ℕ, zero, suc, ◌+◌, ◌≤◌, ◌<◌, Bool, true, false, cond, not, ◌||◌, ◌≡◌, refl, eqb, length}
use Rattle.std.proofs.Common.{arith, sym, ◌∙◌, take_all, lt-ltb, ltb-true, eqb-true, eq-eqb, ne_eqb}
use mathlib.Core.List.{List, [], ◌∷◌, reverse, reverse_aux}
use Rattle.std.proofs.lemmas.Bool.{eqb-false}
use Rattle.rules.specs.Lists.{holds, times, one}
use Rattle.rules.specs.Cases.{by_cases}
use Rattle.theory.specs.Priority.{Priority, Policy}
use Rattle.theory.specs.Plain.{evict, refer, cache_after, misses_after}
use Rattle.theory.specs.OnePass.{list_after}
use Rattle.theory.specs.Visits.{first_visits, first_in, different}
use Rattle.theory.proofs.Bags.{holds_times}
use Rattle.theory.proofs.Once.{times_evict}
use Rattle.theory.proofs.Theorem.{Orders, list_is_cache, at_most}

-- what stays when a page leaves was there
evict_held : (p : ℕ) (above : Priority) (s : List ℕ) → holds p (evict above s) ≡ true → holds p s ≡ true
evict_held p above s h =
    let some : 0 < times p (evict above s) = ltb-true 0 (times p (evict above s)) (sym (holds_times p (evict above s)) ∙ h) in
    holds_times p s ∙ lt-ltb 0 (times p s) (omega (arith, times_evict p above s))

refer_held : (p c x : ℕ) (above : Priority) (s : List ℕ) → eqb x p ≡ false → holds p (refer above c x s) ≡ true → holds p s ≡ true
unfolding refer holds
refer_held p c x above s other h =
    by_cases (holds x s) (λ i. rw i at h)
    (λ i. by_cases (eqb (length s) c) (λ f. evict_held p above s (rw (i, other, f) at h)) (λ f. rw (i, other, f) at h))

-- what a cache holds was seen
pub cache_seen : (policy : Policy) (c p : ℕ) (past to : List ℕ) → holds p (cache_after policy c past to) ≡ true
    → holds p past ≡ true
unfolding cache_after holds
cache_seen policy c p [] to h = h
cache_seen policy c p (x ∷ past) to h =
    by_cases (eqb x p) (λ e. rw e)
    (λ e. rw e (cache_seen policy c p past (x ∷ to)
    (refer_held p c x (policy past to) (cache_after policy c past (x ∷ to)) e h)))

-- and so was what the list holds
pub list_seen : (policy : Policy) → Orders policy → (k p : ℕ) → 1 ≤ k → (past to : List ℕ)
    → holds p (list_after policy k past to) ≡ true → holds p past ≡ true
list_seen policy o k p low past to h =
    cache_seen policy k p past to
    (sym (list_is_cache policy o k k low (omega arith) past to p)
    ∙ rw (take_all k (list_after policy k past to) (at_most policy o k past to)) h)

-- a page that was never seen is not in the cache
unseen_miss : (policy : Policy) (c x : ℕ) (past to : List ℕ)
    → one (not (holds x past)) ≤ one (not (holds x (cache_after policy c past to)))
unfolding one
unseen_miss policy c x past to =
    by_cases (holds x (cache_after policy c past to)) (λ h. rw (h, cache_seen policy c x past to h) (omega arith))
    (λ h. rw h (at_most_one (not (holds x past))))
  where
    at_most_one : (b : Bool) → one b ≤ 1
    at_most_one true = omega arith
    at_most_one false = omega arith

-- 1. at no capacity are there fewer misses than first visits, under any policy
pub visits_are_misses : (policy : Policy) (c : ℕ) (past to : List ℕ) → first_visits past ≤ misses_after policy c past to
unfolding first_visits misses_after
visits_are_misses policy c [] to = omega arith
visits_are_misses policy c (x ∷ past) to =
    omega (arith, visits_are_misses policy c past (x ∷ to), unseen_miss policy c x past (x ∷ to))

-- one page more among those below n
different_past : (n x : ℕ) (l : List ℕ) → n ≤ x → different n (x ∷ l) ≡ different n l
unfolding different holds
different_past zero x l h = refl
different_past (suc n) x l h = rw (different_past n x l (omega arith), ne_eqb x n (λ e. omega arith))

different_next : (n x : ℕ) (l : List ℕ) → x < n → different n (x ∷ l) ≡ different n l + one (not (holds x l))
unfolding different holds one
different_next zero x l h = absurd (omega arith)
different_next (suc n) x l h =
    by_cases (eqb x n) (λ e. here (eqb-true x n e))
    (λ e. rw (e, different_next n x l (omega (arith, eqb-false x n e))) (omega arith))
  where
    here : x ≡ n → different n (x ∷ l) + one (holds n (x ∷ l)) ≡ different n l + one (holds n l) + one (not (holds x l))
    here e =
        rw (different_past n x l (omega arith), eq-eqb x n e, e)
        (by_cases (holds n l) (λ i. rw i (omega arith)) (λ i. rw i (omega arith)))

none_different : (n : ℕ) → different n [] ≡ 0
unfolding different holds one
none_different zero = refl
none_different (suc n) = rw (none_different n)

-- 2. they are as many as there are different pages, all of them below n
pub visits_are_pages : (n : ℕ) (past : List ℕ) → ((p : ℕ) → holds p past ≡ true → p < n) → first_visits past ≡ different n past
unfolding first_visits holds
visits_are_pages n [] below = sym (none_different n)
visits_are_pages n (x ∷ past) below =
    rw (
      visits_are_pages n past (λ p h. below p (also p h)),
      different_next n x past (below x (rw (eq-eqb x x refl))),
    )
  where
    also : (p : ℕ) → holds p past ≡ true → cond (eqb x p) true (holds p past) ≡ true
    also p h = by_cases (eqb x p) (λ e. rw e) (λ e. rw (e, h))

-- the order in which they stand is all one
holds_onto : (p : ℕ) (l r : List ℕ) → holds p (reverse_aux l r) ≡ (holds p l || holds p r)
unfolding holds
holds_onto p [] r = refl
holds_onto p (z ∷ l) r =
    holds_onto p l (z ∷ r) ∙ by_cases (eqb z p) (λ e. rw e (or_true (holds p l))) (λ e. rw e)
  where
    or_true : (b : Bool) → (b || true) ≡ true
    or_true true = refl
    or_true false = refl

pub holds_reverse : (p : ℕ) (l : List ℕ) → holds p (reverse l) ≡ holds p l
unfolding holds
holds_reverse p l = holds_onto p l [] ∙ or_false (holds p l)
  where
    or_false : (b : Bool) → (b || false) ≡ b
    or_false true = refl
    or_false false = refl

different_reverse : (n : ℕ) (l : List ℕ) → different n (reverse l) ≡ different n l
unfolding different
different_reverse zero l = refl
different_reverse (suc n) l = rw (different_reverse n l, holds_reverse n l)

-- 3. the same of a whole trace
pub trace_pages : (n : ℕ) (trace : List ℕ) → ((p : ℕ) → holds p trace ≡ true → p < n) → first_in trace ≡ different n trace
unfolding first_in
trace_pages n trace below =
    visits_are_pages n (reverse trace) (λ p h. below p (sym (holds_reverse p trace) ∙ h)) ∙ different_reverse n trace
