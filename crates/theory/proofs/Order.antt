-- The three policies are orders (rules Q1 to Q3): proved once for "by this number, ties by that order".
use Rattle.std.specs.Prelude.{ℕ, ◌≤◌, ◌<◌, true, false, ◌≡◌, List, eqb, ltb}
use Rattle.std.proofs.Common.{arith, sym, ◌∙◌}
use borrow.Author.Tests.{ltb-true, ltb-false, lt-ltb, le-ltb, eqb-true, eqb-false, eq-eqb, ne_eqb}
use Rattle.rules.specs.Limits as limits
use Rattle.theory.specs.Priority.{Priority, Order}
use Rattle.theory.specs.Policy.{by_more, smaller, nearness, lru, lfu, opt, policy_of}
use Rattle.rules.specs.Lists.{times}
use Rattle.rules.specs.Cases.{by_cases, clash}

pub smaller_order : Order smaller
unfolding smaller
smaller_order =
    record {
      asymmetric = λ a b h. le-ltb b a (omega (arith, ltb-true a b h));
      transitive = λ a b c h k. lt-ltb a c (omega (arith, ltb-true a b h, ltb-true b c k));
      total = λ a b h n. lt-ltb b a (omega (arith, ltb-false a b h, n));
    }

module _ (rank : ℕ → ℕ) (tie : Priority) where
  -- what `by_more` says, as facts about numbers
  pub by_more_more : (a b : ℕ) → rank b < rank a → by_more rank tie a b ≡ true
  unfolding by_more
  by_more_more a b h = rw (lt-ltb (rank b) (rank a) h)

  less : (a b : ℕ) → rank a < rank b → by_more rank tie a b ≡ false
  unfolding by_more
  less a b h = rw (le-ltb (rank b) (rank a) (omega arith), ne_eqb (rank a) (rank b) (λ e. omega arith))

  pub by_more_equal : (a b : ℕ) → rank a ≡ rank b → by_more rank tie a b ≡ tie a b
  unfolding by_more
  by_more_equal a b h = rw (le-ltb (rank b) (rank a) (omega arith), eq-eqb (rank a) (rank b) h)

  -- the three ways in which two ranks can stand
  compare_ranks : {A : Type 0} (a b : ℕ) → (rank b < rank a → A) → (rank a < rank b → A) → (rank a ≡ rank b → A) → A
  compare_ranks a b m l e =
      by_cases (ltb (rank b) (rank a)) (λ h. m (ltb-true (rank b) (rank a) h))
      (λ h. by_cases (eqb (rank a) (rank b)) (λ k. e (eqb-true (rank a) (rank b) k))
      (λ k. l (omega (arith, ltb-false (rank b) (rank a) h, eqb-false (rank a) (rank b) k))))

  at_least : (a b : ℕ) → by_more rank tie a b ≡ true → rank b ≤ rank a
  at_least a b h = compare_ranks a b (λ m. omega arith) (λ l. clash h (less a b l)) (λ e. omega arith)

  pub by_more_order : Order tie → Order (by_more rank tie)
  by_more_order o =
      record {
        asymmetric =
            λ a b h. compare_ranks a b (λ m. less b a m) (λ l. clash h (less a b l))
            (λ e. by_more_equal b a (sym e) ∙ o.asymmetric a b (sym (by_more_equal a b e) ∙ h));
        transitive =
            λ a b c h k. compare_ranks a c (λ m. by_more_more a c m) (λ l. absurd (omega (arith, at_least a b h, at_least b c k)))
            (λ e. tied a b c e (omega (arith, at_least a b h, at_least b c k)) h k o);
        total =
            λ a b h n. compare_ranks a b (λ m. clash (by_more_more a b m) h) (λ l. by_more_more b a l)
            (λ e. by_more_equal b a (sym e) ∙ o.total a b (sym (by_more_equal a b e) ∙ h) n);
      }
    where
      tied : (a b c : ℕ) → rank a ≡ rank c → rank a ≡ rank b → by_more rank tie a b ≡ true → by_more rank tie b c ≡ true
          → Order tie → by_more rank tie a c ≡ true
      tied a b c e d h k t =
          by_more_equal a c e ∙ t.transitive a b c (sym (by_more_equal a b d) ∙ h) (sym (by_more_equal b c (sym d ∙ e)) ∙ k)

pub lru_order : (past to : List ℕ) → Order (lru past to)
unfolding lru
lru_order past to = by_more_order (λ p. nearness p past) smaller smaller_order

pub lfu_order : (past to : List ℕ) → Order (lfu past to)
unfolding lfu
lfu_order past to = by_more_order (λ p. times p past) smaller smaller_order

pub opt_order : (past to : List ℕ) → Order (opt past to)
unfolding opt
opt_order past to = by_more_order (λ p. nearness p to) smaller smaller_order

-- the policy of every number is an order at every moment
pub policy_order : (n : ℕ) (past to : List ℕ) → Order (policy_of n past to)
unfolding policy_of
policy_order n past to =
    by_cases (eqb n limits.lru) (λ e. rw e (lru_order past to))
    (λ e. by_cases (eqb n limits.lfu) (λ d. rw (e, d) (lfu_order past to)) (λ d. rw (e, d) (opt_order past to)))
