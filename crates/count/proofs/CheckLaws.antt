-- What the checks' answers say of the orders of refusals that they stand in.
use Rattle.std.specs.Prelude.{ℕ, suc, ◌+◌, ◌<◌, ◌≤◌, ◌≡◌, refl, List, [], ◌∷◌, leb, ltb, length, take, drop}
use Rattle.std.specs.Prelude.{Err, Option, Some, None, unwrap_or}
use Rattle.std.specs.List.{position, position_from}
use Rattle.std.proofs.Common.{arith, leb-true, leb-false, ltb-false, sym, ◌∙◌, ap, add-one, take_all}
use Rattle.std.proofs.lemmas.Iterator.Adapters.{position_from-zero}
use Rattle.rules.specs.Limits.{policies, references, is_capacity, capacities, pages}
use Rattle.rules.specs.Refusals.{Answer, accepted, first_bad_page}
use Rattle.rules.specs.AnswerLaws.{not_accepted}
use Rattle.rules.specs.Cases.{by_cases}
use Rattle.rules.specs.declared.refusal.Refusal.{Refusal}
use Rattle.rules.specs.declared.refusal.Refusal.TheVariants.{BadPage}
use Rattle.kept.specs.Below.{Below}
use Rattle.count.specs.Count.{within_limits}
use Rattle.count.specs.Checks.{limits_answer, Within}

module _ (policy k count : ℕ) (rest : Answer) where
  pub limits_refused : {r : Refusal} → limits_answer policy k count ≡ Err r → within_limits policy k count rest ≡ Err r
  limits_refused e =
      by_cases (leb policies policy) (λ a. rw a (rw a at e))
      (λ a. by_cases (is_capacity k)
      (λ b. by_cases (ltb references count) (λ c. rw (a, b, c) (rw (a, b, c) at e))
      (λ c. not_accepted (sym (rw (a, b, c) at e))))
      (λ b. rw (a, b) (rw (a, b) at e)))

  pub limits_passed : limits_answer policy k count ≡ accepted → within_limits policy k count rest ≡ rest
  limits_passed e =
      by_cases (leb policies policy) (λ a. not_accepted (rw a at e))
      (λ a. by_cases (is_capacity k)
      (λ b. by_cases (ltb references count) (λ c. not_accepted (rw (a, b, c) at e)) (λ c. rw (a, b, c)))
      (λ b. not_accepted (rw (a, b) at e)))

pub limits_within : (policy k count : ℕ) → limits_answer policy k count ≡ accepted → Within k count
limits_within policy k count e =
    by_cases (leb policies policy) (λ a. not_accepted (rw a at e))
    (λ a. by_cases (leb 1 k)
    (λ b. by_cases (leb k capacities)
    (λ c. by_cases (ltb references count) (λ d. not_accepted (rw (a, b, c, d) at e))
    (λ d. record { low = leb-true 1 k b; high = leb-true k capacities c; few = ltb-false references count d }))
    (λ c. not_accepted (rw (a, b, c) at e)))
    (λ b. not_accepted (rw (a, b) at e)))

pub policy_small : (policy k count : ℕ) → limits_answer policy k count ≡ accepted → policy < policies
policy_small policy k count e =
    by_cases (leb policies policy) (λ a. not_accepted (rw a at e)) (λ a. leb-false policies policy a)

-- where the first bad page is looked for alone, and where something else is asked after it
pub pages_refused : {r : Refusal} (i : ℕ) (trace : List ℕ) (rest : Answer) → first_bad_page i trace accepted ≡ Err r
    → first_bad_page i trace rest ≡ Err r
unfolding first_bad_page
pages_refused i [] rest e = not_accepted (sym e)
pages_refused i (p ∷ trace) rest e =
    by_cases (leb pages p) (λ a. rw a (rw a at e)) (λ a. rw a (pages_refused (suc i) trace rest (rw a at e)))

pub pages_passed : (i : ℕ) (trace : List ℕ) (rest : Answer) → first_bad_page i trace accepted ≡ accepted
    → first_bad_page i trace rest ≡ rest
unfolding first_bad_page
pages_passed i [] rest e = refl
pages_passed i (p ∷ trace) rest e =
    by_cases (leb pages p) (λ a. not_accepted (rw a at e)) (λ a. rw a (pages_passed (suc i) trace rest (rw a at e)))

-- all references are pages where none is bad
pub all_pages : (i : ℕ) (trace : List ℕ) → first_bad_page i trace accepted ≡ accepted → Below pages trace
unfolding first_bad_page
all_pages i [] e = tt
all_pages i (p ∷ trace) e =
    by_cases (leb pages p) (λ a. not_accepted (rw a at e))
    (λ a. (leb-false pages p a, all_pages (suc i) trace (rw a at e)))

-- the first that is no page, by its index
some_is : {i j : ℕ} → Some i ≡ Some j → i ≡ j
some_is e = ap (λ (o : Option ℕ). unwrap_or o 0) e

some_none : {A : Type 0} {j : ℕ} → None ≡ Some j → A
some_none e = let z : ◌≡◌ {A = ℕ} 0 1 = cc in absurd (omega arith)

bad_from : {j : ℕ} (i : ℕ) (trace : List ℕ) → position_from (leb pages) i trace ≡ Some j
    → first_bad_page i trace accepted ≡ Err (BadPage j)
unfolding first_bad_page
bad_from i [] e = some_none e
bad_from i (p ∷ trace) e =
    by_cases (leb pages p) (λ a. rw (a, some_is (rw a at e)))
    (λ a. rw a (rw add-one at (bad_from (i + 1) trace (rw a at e))))

good_from : (i : ℕ) (trace : List ℕ) → position_from (leb pages) i trace ≡ None → first_bad_page i trace accepted ≡ accepted
unfolding first_bad_page
good_from i [] e = refl
good_from i (p ∷ trace) e =
    by_cases (leb pages p) (λ a. some_none (sym (rw a at e)))
    (λ a. rw a (rw add-one at (good_from (i + 1) trace (rw a at e))))

module _ (trace : List ℕ) where
  pub bad_at : {j : ℕ} → position (leb pages) trace ≡ Some j → Err (BadPage j) ≡ first_bad_page 0 trace accepted
  bad_at e = sym (bad_from 0 trace (sym (position_from-zero (leb pages) trace) ∙ e))

  pub good_all : position (leb pages) trace ≡ None → accepted ≡ first_bad_page 0 trace accepted
  good_all e = sym (good_from 0 trace (sym (position_from-zero (leb pages) trace) ∙ e))

  -- a part that is the whole trace: the code hands over all of it, and with this law a part that is all of it proves too, so
  -- that the edit `bad_page_found_later` is refused for what it leaves out
  pub whole_part : (n m : ℕ) → n ≡ 0 → length trace ≤ m → take m (drop n trace) ≡ trace
  whole_part n m start end = rw start (take_all m trace end)
