-- A plain cache holds no page twice.
use Rattle.std.specs.Prelude.{ℕ, suc, ◌≤◌, Bool, true, false, cond, ◌≡◌, List, [], ◌∷◌, eqb, length}
use Rattle.std.proofs.Common.{arith, sym, ◌∙◌, ap, eqb-true, ltb-false}
use Rattle.rules.specs.Lists.{holds, times, without}
use Rattle.theory.specs.Priority.{Priority, Policy}
use Rattle.theory.specs.Plain.{lowest, evict, refer, cache_after}
use Rattle.theory.proofs.Bags.{holds_times}
use Rattle.rules.specs.Cases.{by_cases}

times_without : (p q : ℕ) (l : List ℕ) → times p (without q l) ≤ times p l
unfolding times without
times_without p q [] = omega arith
times_without p q (z ∷ l) =
    by_cases (eqb z q) (λ e. rw e (by_cases (eqb z p) (λ d. rw d (omega arith)) (λ d. rw d (omega arith))))
    (λ e. rw e (by_cases (eqb z p) (λ d. rw d (omega (arith, times_without p q l))) (λ d. rw d (times_without p q l))))

pub times_evict : (p : ℕ) (above : Priority) (s : List ℕ) → times p (evict above s) ≤ times p s
unfolding evict
times_evict p above [] = omega arith
times_evict p above (y ∷ l) = times_without p (lowest above y l) (y ∷ l)

refer_once : (p c x : ℕ) (above : Priority) (s : List ℕ) → times p s ≤ 1 → times p (refer above c x s) ≤ 1
unfolding refer times
refer_once p c x above s once =
    by_cases (holds x s) (λ h. rw h once)
    (λ h. rw h (by_cases (eqb x p) (λ e. rw e (fresh (eqb-true x p e) (eqb (length s) c) (none_yet h)))
    (λ e. rw e (kept (eqb (length s) c)))))
  where
    none_yet : holds x s ≡ false → times x s ≤ 0
    none_yet h = ltb-false 0 (times x s) (sym (holds_times x s) ∙ h)

    fresh : x ≡ p → (full : Bool) → times x s ≤ 0 → suc (times p (cond full (evict above s) s)) ≤ 1
    fresh e true none = omega (arith, times_evict p above s, ap (λ (q : ℕ). times q s) e)
    fresh e false none = omega (arith, ap (λ (q : ℕ). times q s) e)

    kept : (full : Bool) → times p (cond full (evict above s) s) ≤ 1
    kept true = omega (arith, times_evict p above s)
    kept false = once

pub cache_once : (policy : Policy) (c : ℕ) (past to : List ℕ) (p : ℕ) → times p (cache_after policy c past to) ≤ 1
unfolding cache_after times
cache_once policy c [] to p = omega arith
cache_once policy c (x ∷ past) to p =
    refer_once p c x (policy past to) (cache_after policy c past (x ∷ to)) (cache_once policy c past (x ∷ to) p)
