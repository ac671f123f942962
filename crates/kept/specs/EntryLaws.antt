-- Entries stand in the order of their pages' priority, and a reference to a page is a `place_entry` of its entry.
use Rattle.std.specs.Prelude.{ℕ, ◌≤◌, ◌<◌, false, ◌≡◌, eqb}
use Rattle.std.proofs.Common.{arith, ◌∙◌, ap}
use Rattle.std.proofs.Math.Path.{refl}
use mathlib.Core.List.{List, [], ◌∷◌, map}
use Rattle.std.proofs.Math.Dec.{ltb}
use borrow.Author.Tests.{eqb-true, eqb-false, eq-eqb, ne_eqb, ltb-true, ltb-false, lt-ltb, le-ltb}
use Rattle.rules.specs.Lists.{holds, times}
use Rattle.theory.specs.Priority.{Priority}
use Rattle.theory.specs.Policy.{by_more, smaller}
use Rattle.theory.specs.OnePass.{carry, place}
use Rattle.kept.specs.Entries.{entry, page_of, larger, place_entry}
use Rattle.theory.proofs.Bags.{holds_times}
use Rattle.kept.specs.Below.{Below}
use Rattle.rules.specs.Cases.{by_cases, clash}

-- no page is there
not_there : (x : ℕ) (l : List ℕ) → times x l ≤ 0 → holds x l ≡ false
not_there x l h = holds_times x l ∙ le-ltb 0 (times x l) h

module _ (rank : ℕ → ℕ) where
  pub entry_above : (y z : ℕ) → y < 65536 → z < 65536 → by_more rank smaller y z ≡ larger (entry rank y) (entry rank z)
  unfolding by_more smaller larger entry
  entry_above y z hy hz =
      by_cases (ltb (rank z) (rank y))
      (λ e. rw (e, lt-ltb (entry rank z) (entry rank y) (omega (arith, ltb-true (rank z) (rank y) e))))
      (λ e. rw e (by_cases (eqb (rank y) (rank z)) (λ d. rw d (tied (eqb-true (rank y) (rank z) d)))
      (λ d. rw (
        d,
        le-ltb (entry rank z) (entry rank y)
            (omega (arith, ltb-false (rank z) (rank y) e, eqb-false (rank y) (rank z) d)),
      ))))
    where
      tied : rank y ≡ rank z → ltb y z ≡ ltb (entry rank z) (entry rank y)
      tied q =
          by_cases (ltb y z) (λ e. rw (e, lt-ltb (entry rank z) (entry rank y) (omega (arith, ltb-true y z e))))
          (λ e. rw (e, le-ltb (entry rank z) (entry rank y) (omega (arith, ltb-false y z e))))

  pub entry_same : (y z : ℕ) → y < 65536 → z < 65536 → eqb (entry rank y) (entry rank z) ≡ eqb y z
  unfolding entry
  entry_same y z hy hz =
      by_cases (eqb y z) (λ e. rw (e, eq-eqb (entry rank y) (entry rank z) (ap (entry rank) (eqb-true y z e))))
      (λ e. rw (e, ne_eqb (entry rank y) (entry rank z) (λ q. omega (arith, eqb-false y z e))))

  -- pages compared by what their entries show
  unfoldable pub through : Priority → Priority
  through shown y z = shown (entry rank y) (entry rank z)

  -- carrying entries is carrying pages
  carry_entries : (shown : Priority) (x y : ℕ) (l : List ℕ) → x < 65536 → y < 65536 → Below 65536 l
      → map (entry rank) (carry (through shown) x y l) ≡ carry shown (entry rank x) (entry rank y) (map (entry rank) l)
  unfolding carry through
  carry_entries shown x y [] hx hy hl = refl
  carry_entries shown x y (z ∷ l) hx hy hl =
      rw (entry_same z x hl.0 hx)
      (by_cases (eqb z x) (λ e. rw e) (λ e. rw e (by_cases (shown (entry rank y) (entry rank z))
      (λ a. rw (a, carry_entries shown x z l hx hl.0 hl.1)) (λ a. rw (a, carry_entries shown x y l hx hy hl.1)))))

-- what is not there is not there after carrying either
carry_out : (above : Priority) (x y : ℕ) (l : List ℕ) → (y ≡ x → ⊥) → times x l ≤ 1 → holds x (carry above x y l) ≡ false
unfolding carry holds times
carry_out above x y [] ny once = rw (ne_eqb y x ny)
carry_out above x y (z ∷ l) ny once =
    by_cases (eqb z x) (λ e. rw (e, ne_eqb y x ny) (not_there x l (omega (arith, rw e at once))))
    (λ e. rw e (by_cases (above y z)
    (λ a. rw (a, ne_eqb y x ny) (carry_out above x z l (eqb-false z x e) (rw e at once)))
    (λ a. rw (a, e) (carry_out above x y l ny (rw e at once)))))

-- the order of the referenced page itself is never asked for
pub carry_same : (above above' : Priority) (x : ℕ)
    → ((y z : ℕ) → (y ≡ x → ⊥) → (z ≡ x → ⊥) → y < 65536 → z < 65536 → above y z ≡ above' y z)
    → (y : ℕ) (l : List ℕ) → (y ≡ x → ⊥) → y < 65536 → Below 65536 l → carry above x y l ≡ carry above' x y l
unfolding carry
carry_same above above' x agree y [] ny hy hl = refl
carry_same above above' x agree y (z ∷ l) ny hy hl =
    by_cases (eqb z x) (λ e. rw e)
    (λ e. rw (e, agree y z ny (eqb-false z x e) hy hl.0) (by_cases (above' y z)
    (λ a. rw (a, carry_same above above' x agree z l (eqb-false z x e) hl.0 hl.1))
    (λ a. rw (a, carry_same above above' x agree y l ny hy hl.1))))

-- another rank of a page that is not there changes no entry
entries_same : (rank rank' : ℕ → ℕ) (x : ℕ) → ((p : ℕ) → (p ≡ x → ⊥) → rank p ≡ rank' p) → (l : List ℕ) → holds x l ≡ false
    → map (entry rank) l ≡ map (entry rank') l
unfolding holds entry
entries_same rank rank' x agree [] h = refl
entries_same rank rank' x agree (z ∷ l) h =
    by_cases (eqb z x) (λ e. clash refl (rw e at h))
    (λ e. rw (agree z (eqb-false z x e), entries_same rank rank' x agree l (rw e at h)))

-- a reference to x, whose rank changes, is a `place_entry` of its entry
pub place_entries : (rank rank' : ℕ → ℕ) (shown : Priority) (x : ℕ) → ((p : ℕ) → (p ≡ x → ⊥) → rank' p ≡ rank p) → (l : List ℕ)
    → x < 65536 → Below 65536 l → times x l ≤ 1
    → map (entry rank') (place (through rank shown) x l) ≡ place_entry shown (entry rank x) (entry rank' x) (map (entry rank) l)
unfolding place place_entry times
place_entries rank rank' shown x agree [] hx hl once = refl
place_entries rank rank' shown x agree (y ∷ l) hx hl once =
    rw (entry_same rank y x hl.0 hx)
    (by_cases (eqb y x)
    (λ e. rw (e, eqb-true y x e, entries_same rank' rank x agree l (not_there x l (omega (arith, rw e at once)))))
    (λ e. rw (
      e,
      entries_same rank' rank x agree (carry (through rank shown) x y l)
          (carry_out (through rank shown) x y l (eqb-false y x e) (rw e at once)),
      carry_entries rank shown x y l hx hl.0 hl.1,
    )))

-- the page of an entry is the page that it was made of
page_entry : (rank : ℕ → ℕ) (p : ℕ) → p < 65536 → page_of (entry rank p) ≡ p
unfolding page_of entry
page_entry rank p h = omega arith

pub pages_of_law : (rank : ℕ → ℕ) (l : List ℕ) → Below 65536 l → map page_of (map (entry rank) l) ≡ l
pages_of_law rank [] h = refl
pages_of_law rank (p ∷ l) h = rw (page_entry rank p h.0, pages_of_law rank l h.1)
