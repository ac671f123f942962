-- What code keeps of the list: one entry for each place. A policy whose list can be kept so is one record of three facts, and one
-- law then says what a reference does to the entries.
use Rattle.std.specs.Prelude.{ℕ, zero, suc, ◌≤◌, ◌<◌, ◌≡◌, refl, List, [], ◌∷◌, map, eqb, take}
use Rattle.std.proofs.Common.{arith, take_all}
use Rattle.rules.specs.Lists.{times}
use Rattle.theory.specs.Priority.{Priority, Policy}
use Rattle.theory.specs.OnePass.{place, step, list_after, depth_from}
use Rattle.kept.specs.Entries.{entry, place_entry}
use Rattle.kept.specs.Rankings.{Ranking}
use Rattle.kept.specs.EntryLaws.{through, place_entries, entry_same}
use Rattle.kept.specs.Below.{Below, list_below}
use Rattle.theory.proofs.Theorem.{Orders, no_page_twice, at_most}
use Rattle.rules.specs.Cases.{by_cases}

unfoldable pub kept : Ranking → Policy → ℕ → List ℕ → List ℕ → List ℕ
kept ranking policy k past to = map (entry (ranking past to)) (list_after policy k past to)

pub record Keeps (policy : Policy) (ranking : Ranking) (shown : Priority) : Type 0 where
  pub orders : Orders policy
  -- only the referenced page's own rank changes
  pub others : (x : ℕ) (past to : List ℕ) (p : ℕ) → (p ≡ x → ⊥) → ranking (x ∷ past) to p ≡ ranking past (x ∷ to) p
  -- comparing entries is comparing pages, as far as the list asks for it
  pub compared : (k x : ℕ) (past to : List ℕ) → Below 65536 past
      → place (policy past to) x (list_after policy k past (x ∷ to))
      ≡ place (through (ranking past (x ∷ to)) shown) x (list_after policy k past (x ∷ to))

map_take : (f : ℕ → ℕ) (k : ℕ) (l : List ℕ) → map f (take k l) ≡ take k (map f l)
map_take f zero l = refl
map_take f (suc k) [] = refl
map_take f (suc k) (z ∷ l) = rw (map_take f k l)

module _ (policy : Policy) (ranking : Ranking) (shown : Priority) (keeps : Keeps policy ranking shown) (k : ℕ) (low : 1 ≤ k) where
  once : (past to : List ℕ) (x : ℕ) → times x (list_after policy k past to) ≤ 1
  once past to x =
      rw (take_all k (list_after policy k past to) (at_most policy keeps.orders k past to))
      at (no_page_twice policy keeps.orders k k low (omega arith) past to x)

  pub kept_step : (x : ℕ) (past to : List ℕ) → x < 65536 → Below 65536 past
      → kept ranking policy k (x ∷ past) to
      ≡ take k
      (place_entry shown (entry (ranking past (x ∷ to)) x) (entry (ranking (x ∷ past) to) x)
      (kept ranking policy k past (x ∷ to)))
  unfolding kept list_after step
  kept_step x past to hx hp =
      rw (
        map_take (entry (ranking (x ∷ past) to)) k (place (policy past to) x (list_after policy k past (x ∷ to))),
        keeps.compared k x past to hp,
        place_entries (ranking past (x ∷ to)) (ranking (x ∷ past) to) shown x (keeps.others x past to)
            (list_after policy k past (x ∷ to)) hx (list_below 65536 policy k past (x ∷ to) hp) (once past (x ∷ to) x),
      )

-- the depth of a page is the depth of its entry
pub depth_entry : (rank : ℕ → ℕ) (i x : ℕ) (l : List ℕ) → x < 65536 → Below 65536 l
    → depth_from i (entry rank x) (map (entry rank) l) ≡ depth_from i x l
unfolding depth_from
depth_entry rank i x [] hx hl = refl
depth_entry rank i x (z ∷ l) hx hl =
    rw (entry_same rank z x hl.0 hx)
    (by_cases (eqb z x) (λ e. rw e) (λ e. rw (e, depth_entry rank (suc i) x l hx hl.1)))
