-- How often each depth came: a table with a place for each depth from 0, which stands for "not in the list".
use Rattle.std.specs.Prelude.{ℕ, zero, suc, ◌+◌, ◌≤◌, ◌<◌, false, ◌≡◌, refl, List, [], ◌∷◌, eqb, leb, ltb, length}
use Rattle.std.specs.Prelude.{get_or, set, replicate, sum, take, drop}
use Rattle.std.proofs.Common.{arith, add-one, sym, ◌∙◌, length-set, get_or-set_same, get_or-set_other, ltb-true}
use Rattle.std.proofs.Common.{ltb-false, eqb-true, leb-true, leb-false, le-leb}
use Rattle.std.proofs.Common.{take-suc, length-drop, one-add}
use Rattle.std.proofs.lemmas.List.{length-replicate}
use Rattle.std.proofs.lemmas.List.Sums.{sum_by_push}
use Rattle.std.proofs.Math.Seq.{get_or-drop}
use Rattle.std.proofs.Math.Seq.{set_out}
use Rattle.std.proofs.lemmas.Bool.{eqb-false, lt-leb}
use Rattle.rules.specs.Limits.{capacities}
use Rattle.rules.specs.Lists.{one}
use Rattle.theory.specs.Priority.{Policy}
use Rattle.theory.specs.OnePass.{list_after, depth, within, depth_hits}
use Rattle.rules.specs.Cases.{by_cases}

-- one more at place d
unfoldable pub bump : ℕ → List ℕ → List ℕ
bump d table = set table d (get_or table d 0 + 1)

unfoldable pub tally : Policy → ℕ → List ℕ → List ℕ → List ℕ
tally policy k [] to = replicate (suc capacities) 0
tally policy k (x ∷ past) to = bump (depth x (list_after policy k past (x ∷ to))) (tally policy k past (x ∷ to))

-- the sum of the places 1 to c
unfoldable pub up_to : List ℕ → ℕ → ℕ
up_to table zero = 0
up_to table (suc c) = up_to table c + get_or table (suc c) 0

pub bump_length : (d : ℕ) (table : List ℕ) → length (bump d table) ≡ length table
unfolding bump
bump_length d table = length-set table d (get_or table d 0 + 1)

pub bump_same : (d : ℕ) (table : List ℕ) → d < length table → get_or (bump d table) d 0 ≡ get_or table d 0 + 1
unfolding bump
bump_same d table h = get_or-set_same table d (get_or table d 0 + 1) 0 h

pub bump_other : (d c : ℕ) (table : List ℕ) → (c ≡ d → ⊥) → get_or (bump d table) c 0 ≡ get_or table c 0
unfolding bump
bump_other d c table n = get_or-set_other table d c (get_or table d 0 + 1) 0 n

pub tally_length : (policy : Policy) (k : ℕ) (past to : List ℕ) → length (tally policy k past to) ≡ suc capacities
unfolding tally
tally_length policy k [] to = length-replicate {A = ℕ} (suc capacities) 0
tally_length policy k (x ∷ past) to =
    bump_length (depth x (list_after policy k past (x ∷ to))) (tally policy k past (x ∷ to))
    ∙ tally_length policy k past (x ∷ to)

-- a depth that is not c + 1 is within c + 1 exactly if it is within c
one_further : (d c : ℕ) → (suc c ≡ d → ⊥) → within d (suc c) ≡ within d c
one_further d c n =
    by_cases (leb d c) (λ e. rw (e, le-leb d (suc c) (omega (arith, leb-true d c e))))
    (λ e. rw (e, lt-leb d (suc c) (omega (arith, leb-false d c e, n))))

-- one more place d adds one to the sum up to c exactly if d is one of 1 to c
up_to_bump : (d c : ℕ) (table : List ℕ) → c < length table → up_to (bump d table) c ≡ up_to table c + one (within d c)
unfolding up_to one
up_to_bump d zero table h = sym (rw (nowhere d) (omega arith))
  where
    nowhere : (d : ℕ) → within d 0 ≡ false
    nowhere d = by_cases (leb 1 d) (λ e. rw (e, lt-leb d 0 (omega (arith, leb-true 1 d e)))) (λ e. rw e)
up_to_bump d (suc c) table h =
    by_cases (eqb (suc c) d)
    (λ e. at_place (eqb-true (suc c) d e) (up_to_bump d c table (omega arith)))
    (λ e. elsewhere (eqb-false (suc c) d e) (up_to_bump d c table (omega arith)))
  where
    at_place : suc c ≡ d → up_to (bump d table) c ≡ up_to table c + one (within d c)
        → up_to (bump d table) c + get_or (bump d table) (suc c) 0
        ≡ up_to table c + get_or table (suc c) 0 + one (within d (suc c))
    at_place e i =
        rw (
          i,
          e,
          bump_same d table (omega arith),
          le-leb 1 d (omega arith),
          lt-leb d c (omega arith),
          le-leb d d (omega arith),
        ) (omega arith)

    elsewhere : (suc c ≡ d → ⊥) → up_to (bump d table) c ≡ up_to table c + one (within d c)
        → up_to (bump d table) c + get_or (bump d table) (suc c) 0
        ≡ up_to table c + get_or table (suc c) 0 + one (within d (suc c))
    elsewhere n i = rw (i, bump_other d (suc c) table n, one_further d c n) (omega arith)

pub zeros_at : (n d : ℕ) → get_or {A = ℕ} (replicate n 0) d 0 ≡ 0
zeros_at zero d = refl
zeros_at (suc n) zero = refl
zeros_at (suc n) (suc d) = zeros_at n d

zeros_up_to : (n c : ℕ) → up_to (replicate n 0) c ≡ 0
unfolding up_to
zeros_up_to n zero = refl
zeros_up_to n (suc c) = rw (zeros_up_to n c, zeros_at n (suc c))

bump_out : (d : ℕ) (table : List ℕ) → length table ≤ d → bump d table ≡ table
unfolding bump
bump_out d table h = set_out table d (get_or table d 0 + 1) h

-- one more at any place of a table is at most one more at each
pub bump_most : (d c : ℕ) (table : List ℕ) → get_or (bump d table) c 0 ≤ get_or table c 0 + 1
bump_most d c table =
    by_cases (eqb c d) (λ e. here (eqb-true c d e))
    (λ e. omega (arith, bump_other d c table (eqb-false c d e)))
  where
    here : c ≡ d → get_or (bump d table) c 0 ≤ get_or table c 0 + 1
    here e = by_cases (ltb d (length table)) (λ h. rw (e, bump_same d table (ltb-true d (length table) h)) (omega arith))
        (λ h. rw (bump_out d table (ltb-false d (length table) h)) (omega arith))

-- the sum of the depths 1 to c is the number of hits at c
pub tally_hits : (policy : Policy) (k c : ℕ) (past to : List ℕ) → c ≤ capacities
    → up_to (tally policy k past to) c ≡ depth_hits policy k c past to
unfolding tally depth_hits
tally_hits policy k c [] to h = zeros_up_to (suc capacities) c
tally_hits policy k c (x ∷ past) to h =
    rw (
      up_to_bump (depth x (list_after policy k past (x ∷ to))) c (tally policy k past (x ∷ to))
          (omega (arith, tally_length policy k past (x ∷ to))),
      tally_hits policy k c past (x ∷ to) h,
    )

-- no depth came more often than there were references
pub tally_most : (policy : Policy) (k d : ℕ) (past to : List ℕ) → get_or (tally policy k past to) d 0 ≤ length past
unfolding tally
tally_most policy k d [] to = omega (arith, zeros_at (suc capacities) d)
tally_most policy k d (x ∷ past) to =
    let found = depth x (list_after policy k past (x ∷ to)) in
    omega (arith, bump_most found d (tally policy k past (x ∷ to)), tally_most policy k d past (x ∷ to))

pub up_to_step : (depths : List ℕ) (d : ℕ) → up_to depths (d + 1) ≡ up_to depths d + get_or depths (d + 1) 0
unfolding up_to
up_to_step depths d = rw (add-one d)

pub up_to_grows : (depths : List ℕ) (c d : ℕ) → c ≤ d → up_to depths c ≤ up_to depths d
unfolding up_to
up_to_grows depths zero zero h = omega arith
up_to_grows depths (suc c) zero h = absurd (omega arith)
up_to_grows depths c (suc d) h =
    by_cases (eqb c (suc d)) (λ e. rw (eqb-true c (suc d) e) (omega arith))
    (λ e. omega (arith, up_to_grows depths c d (omega (arith, eqb-false c (suc d) e))))

-- the sum up to a place is that of the places after the first
pub up_to_sum : (table : List ℕ) (c : ℕ) → c < length table → sum (take c (drop 1 table)) ≡ up_to table c
unfolding up_to
up_to_sum table zero h = refl
up_to_sum table (suc c) h =
    rw (
      take-suc (drop 1 table) c 0 (omega (arith, length-drop 1 table)),
      sum_by_push (λ x. x) (take c (drop 1 table)) (get_or (drop 1 table) c 0),
      up_to_sum table c (omega arith),
      get_or-drop 1 table c 0,
      one-add c,
    )
