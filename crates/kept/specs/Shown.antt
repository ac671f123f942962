-- The list as it is shown (rules M8, A6): its pages in the order of places, and 0 past its length.
use Rattle.std.specs.Prelude.{ℕ, zero, suc, ◌+◌, ◌-◌, ◌≤◌, ◌<◌, min, ◌≡◌, refl, List, [], ◌∷◌, ◌++◌, map, length}
use Rattle.std.specs.Prelude.{take, get_or, set, replicate}
use Rattle.std.proofs.Common.{arith, add-one, ◌∙◌, append_assoc, length-append, take-suc, get_or-append-add, length-take-le}
use Rattle.std.proofs.lemmas.List.{length-map, set_at}
use Rattle.std.proofs.Math.Seq.{take-append_seam}
use Rattle.rules.specs.Limits.{capacities}
use Rattle.rules.specs.declared.Page.{Page}
use Rattle.kept.specs.Entries.{page_of}
use Rattle.kept.specs.Tally.{zeros_at}

abbrev pub page : ℕ → Page
page n = record { 0 = n }

-- A6: the pages of a list, and 0 past its length
unfoldable pub places_of : List ℕ → List Page
places_of l = map page l ++ replicate (capacities - length l) (page 0)

-- read back: the page numbers in the first n places that are shown
unfoldable pub pages_shown : ℕ → List Page → List ℕ
pages_shown n places = take n (map (λ p. p.0) places)

-- of the first n entries of a memory, as far as there are places
unfoldable pub shown_places : ℕ → List ℕ → List Page
shown_places n memory = places_of (map page_of (take (min (min n (length memory)) capacities) memory))

-- the pages of the first i entries are shown
pub shown_start : (memory : List ℕ) → replicate capacities (page 0) ≡ places_of (map page_of (take 0 memory))
unfolding places_of
shown_start memory = refl

map_snoc : {A B : Type 0} (f : A → B) (l : List A) (a : A) → map f (l ++ (a ∷ [])) ≡ map f l ++ (f a ∷ [])
map_snoc f [] a = refl
map_snoc f (z ∷ l) a = rw (map_snoc f l a)

-- the first place past a list
places_of_room : (l : List ℕ) → length l < capacities
    → places_of l ≡ map page l ++ (page 0 ∷ replicate (capacities - suc (length l)) (page 0))
unfolding places_of
places_of_room l h =
    let one : capacities - length l ≡ suc (capacities - suc (length l)) = omega arith in
    rw one

places_of_snoc : (l : List ℕ) (x : ℕ)
    → places_of (l ++ (x ∷ [])) ≡ map page l ++ (page x ∷ replicate (capacities - suc (length l)) (page 0))
unfolding places_of
places_of_snoc l x =
    rw (
      map_snoc page l x,
      length-append l (x ∷ []),
      add-one (length l),
      append_assoc (map page l) (page x ∷ []) (replicate (capacities - suc (length l)) (page 0)),
    )

pub shown_next : (memory : List ℕ) (places : List Page) (i : ℕ) → i < length memory → i < capacities
    → places ≡ places_of (map page_of (take i memory))
    → set places i (page (page_of (get_or memory i 0))) ≡ places_of (map page_of (take (i + 1) memory))
shown_next memory places i h room e =
    let l : List ℕ = map page_of (take i memory) in
    let x : ℕ = page_of (get_or memory i 0) in
    let long : length (map page_of (take i memory)) ≡ i =
    length-map (take i memory) page_of ∙ length-take-le i memory (omega arith) in
    rw (
      e,
      places_of_room l (omega arith),
      set_at (map page l) (page 0) (replicate (capacities - suc (length l)) (page 0)) (page x) i (length-map l page ∙ long),
      add-one i,
      take-suc memory i 0 h,
      map_snoc page_of (take i memory) (get_or memory i 0),
      places_of_snoc l x,
    )

pub shown_end : (n : ℕ) (memory : List ℕ) (places : List Page) (i : ℕ) → i ≡ min (min n (length memory)) capacities
    → places ≡ places_of (map page_of (take i memory)) → places ≡ shown_places n memory
unfolding shown_places
shown_end n memory places i u e = rw (← u) e

-- where no more entries are in use than there are places, all of them are shown
pub shown_all : (n : ℕ) (memory : List ℕ) → n ≤ capacities → length memory ≡ capacities
    → shown_places n memory ≡ places_of (map page_of (take n memory))
unfolding shown_places
shown_all n memory h room =
    let all : min (min n (length memory)) capacities ≡ n = omega arith in
    rw all

-- what is shown of a list are its pages, and 0 in every place past them
numbers_shown : (l : List ℕ) → map (λ p. p.0) (places_of l) ≡ l ++ replicate (capacities - length l) 0
unfolding places_of
numbers_shown l = shown_from l (capacities - length l)
  where
    zeros_shown : (n : ℕ) → map (λ (p : Page). p.0) (replicate n (page 0)) ≡ replicate n 0
    zeros_shown zero = refl
    zeros_shown (suc n) = rw (zeros_shown n)

    shown_from : (l : List ℕ) (n : ℕ) → map (λ (p : Page). p.0) (map page l ++ replicate n (page 0)) ≡ l ++ replicate n 0
    shown_from [] n = zeros_shown n
    shown_from (x ∷ l) n = rw (shown_from l n)

pub shown_back : (l : List ℕ) → pages_shown (length l) (places_of l) ≡ l
unfolding pages_shown
shown_back l = rw (numbers_shown l) (take-append_seam l (replicate (capacities - length l) 0))

pub zero_past : (l : List ℕ) (i : ℕ) → length l ≤ i → get_or (map (λ p. p.0) (places_of l)) i 0 ≡ 0
zero_past l i h =
    let past : i ≡ length l + (i - length l) = omega arith in
    rw (numbers_shown l, past, get_or-append-add l (replicate (capacities - length l) 0) (i - length l) 0)
    (zeros_at (capacities - length l) (i - length l))
