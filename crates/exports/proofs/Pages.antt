-- The page numbers of an array of pages, one place after the other.
use Rattle.std.specs.Prelude.{ℕ, suc, ◌+◌, ◌-◌, ◌≤◌, ◌<◌, ◌≡◌, List, [], ◌∷◌, ◌++◌, map, length, replicate, get_or, set}
use Rattle.std.proofs.Common.{arith, add-one, refl, ◌∙◌, take, append_assoc}
use Rattle.std.proofs.Math.Seq.{take-suc}
use Rattle.std.proofs.lemmas.List.{append-nil, length-map, map-append, set_at, take_all, length-take-le}
use Rattle.rules.specs.Limits.{capacities}
use Rattle.rules.specs.declared.Page.{Page}
use Rattle.exports.specs.Trace.{page_number}

-- the numbers of the first i pages, and 0 behind them
unfoldable pub numbers_of : List Page → ℕ → List ℕ
numbers_of shown i = map page_number (take i shown) ++ replicate (capacities - i) 0

module _ (shown : List Page) (room : length shown ≡ capacities) where
  pub numbers_start : replicate capacities 0 ≡ numbers_of shown 0
  unfolding numbers_of
  numbers_start = refl

  pub numbers_next : (p : Page) (i : ℕ) (numbers : List ℕ) → i < capacities → numbers ≡ numbers_of shown i
      → set numbers i (page_number (get_or shown i p)) ≡ numbers_of shown (i + 1)
  unfolding numbers_of
  numbers_next p i numbers h e =
      let one : capacities - i ≡ suc (capacities - suc i) = omega arith in
      let long : length (map page_number (take i shown)) ≡ i =
      length-map (take i shown) page_number ∙ length-take-le i shown (omega arith) in
      let here : ℕ = page_number (get_or shown i p) in
      rw (
        e,
        one,
        set_at (map page_number (take i shown)) 0 (replicate (capacities - suc i) 0) here i long,
        add-one i,
        take-suc shown i p (omega arith),
        map-append page_number (take i shown) (get_or shown i p ∷ []),
        append_assoc (map page_number (take i shown)) (here ∷ []) (replicate (capacities - suc i) 0),
      )

  pub numbers_end : (i : ℕ) (numbers : List ℕ) → capacities ≤ i → i ≤ capacities → numbers ≡ numbers_of shown i
      → numbers ≡ map page_number shown
  unfolding numbers_of
  numbers_end i numbers low high e =
      let none : capacities - i ≡ 0 = omega arith in
      rw (e, none, append-nil (map page_number (take i shown)), take_all i shown (omega arith))
