-- Laws of a section's values, one after the other: what the rest of a scan says after a value, and what a table holds after a
-- store.
use Rattle.std.specs.Prelude.{ℕ, suc, ◌+◌, ◌*◌, ◌≤◌, ◌<◌, ◌≡◌, refl, false, List, [], ◌∷◌, ◌++◌, length, get_or, set, drop, Err}
use Rattle.std.proofs.Common.{sym, ◌∙◌, add-one, arith, drop-cons, lt-ltb, le-ltb, le-leb}
use Rattle.std.proofs.Math.Bool.{and-false}
use Rattle.std.proofs.lemmas.Bool.{lt-leb}
use Rattle.std.proofs.Math.Seq.{drop-length, append_snoc}
use Rattle.std.proofs.lemmas.List.{set_at}
use Rattle.rules.specs.Limits.{capacities, pages}
use Rattle.rules.specs.Refusals.{accepted, first_bad_page}
use Rattle.rules.specs.FirstBad.{first_bad, first_bad_found, first_bad_none, first_bad_at, first_bad_next, first_bad_end}
use Rattle.rules.specs.declared.refusal.Refusal.TheVariants.{BadPage}
use Rattle.file_theory.specs.Format.{number_at, numbers, section_values}
use Rattle.file_theory.specs.Decoding.{rising}
use Rattle.file_theory.specs.Promises.{overwritten}
use Rattle.file_theory.specs.Words.{length_numbers, value_at, numbers_more, number_at_drop}

-- the values from i on start with the number that stands there
next_value : (n : ℕ) (bytes : List ℕ) (i : ℕ) → i < n
    → drop i (section_values n bytes) ≡ number_at bytes (2 + 2 * i) ∷ drop (i + 1) (section_values n bytes)
next_value n bytes i h =
    let l : i < length (section_values n bytes) = omega (arith, length_numbers n (drop 2 bytes)) in
    rw (add-one i, drop-cons (section_values n bytes) i 0 l, value_at n bytes i h)

pub no_value : (n : ℕ) (bytes : List ℕ) (i : ℕ) → n ≤ i → i ≤ n → drop i (section_values n bytes) ≡ []
no_value n bytes i a b =
    let e : i ≡ length (section_values n bytes) = omega (arith, length_numbers n (drop 2 bytes)) in
    rw e (drop-length (section_values n bytes))

-- capacities: a value that breaks R9 settles the scan, another leaves it to the rest
module _ (n : ℕ) (bytes : List ℕ) (i before c : ℕ) (more : i < n) (here : c ≡ number_at bytes (2 + 2 * i)) where
  pub not_above : c ≤ before → rising before (drop i (section_values n bytes)) ≡ false
  unfolding rising
  not_above low = rw (next_value n bytes i more, ← here, le-ltb before c low, and-false)

  pub above_limit : capacities < c → rising before (drop i (section_values n bytes)) ≡ false
  unfolding rising
  above_limit high = rw (next_value n bytes i more, ← here, lt-leb c capacities high, and-false)

  pub risen : before < c → c ≤ capacities
      → rising before (drop i (section_values n bytes)) ≡ rising c (drop (i + 1) (section_values n bytes))
  unfolding rising
  risen low high = rw (next_value n bytes i more, ← here, le-leb 1 c (omega arith), le-leb c capacities high, lt-ltb before c low)

-- references: looking for the first value that breaks R3, as in any list of pages
module _ (n : ℕ) (bytes : List ℕ) (i p : ℕ) (more : i < n) (here : p ≡ number_at bytes (2 + 2 * i)) where
  within : i < length (section_values n bytes)
  within = omega (arith, length_numbers n (drop 2 bytes))

  pub bad_page_law : pages ≤ p → first_bad i (drop i (section_values n bytes)) ≡ i
  bad_page_law bad = first_bad_at (section_values n bytes) i within (rw (value_at n bytes i more, ← here) bad)

  pub good_page : p < pages
      → first_bad i (drop i (section_values n bytes)) ≡ first_bad (i + 1) (drop (i + 1) (section_values n bytes))
  good_page good = first_bad_next (section_values n bytes) i within (rw (value_at n bytes i more, ← here) good)

-- the refusal of the first bad page, where one was found, and none where the scan came to the end
pub found_bad : (n : ℕ) (bytes : List ℕ) (i : ℕ) → i < n → first_bad 0 (section_values n bytes) ≡ i
    → first_bad_page 0 (section_values n bytes) accepted ≡ Err (BadPage i)
found_bad n bytes i h e =
    first_bad_found 0 (section_values n bytes) accepted (omega (arith, e, length_numbers n (drop 2 bytes))) ∙ rw e

pub none_bad : (n : ℕ) (bytes : List ℕ) (i : ℕ) → n ≤ i
    → first_bad 0 (section_values n bytes) ≡ first_bad i (drop i (section_values n bytes))
    → first_bad_page 0 (section_values n bytes) accepted ≡ accepted
none_bad n bytes i h e =
    let ended = first_bad_end (section_values n bytes) i (omega (arith, length_numbers n (drop 2 bytes))) in
    first_bad_none 0 (section_values n bytes) accepted (omega (arith, e, ended, length_numbers n (drop 2 bytes)))

-- a table that took no value, the next after i values, and all n
pub copied_none : (bytes table₀ : List ℕ) → table₀ ≡ numbers 0 (drop 2 bytes) ++ drop 0 table₀
unfolding numbers
copied_none bytes table₀ = refl

pub copied_more : (bytes table₀ : List ℕ) (i v : ℕ) → i < length table₀ → v ≡ number_at bytes (2 + 2 * i)
    → set (numbers i (drop 2 bytes) ++ drop i table₀) i v ≡ numbers (i + 1) (drop 2 bytes) ++ drop (i + 1) table₀
copied_more bytes table₀ i v h here =
    let at_i : number_at (drop 2 bytes) (2 * i) ≡ v = number_at_drop 2 bytes (2 * i) ∙ sym here in
    rw (add-one i, drop-cons table₀ i 0 h, numbers_more i (drop 2 bytes), at_i)
    (set_at (numbers i (drop 2 bytes)) (get_or table₀ i 0) (drop (suc i) table₀) v i (length_numbers i (drop 2 bytes))
    ∙ sym (append_snoc (numbers i (drop 2 bytes)) v (drop (suc i) table₀)))

pub copied_all : (bytes table₀ : List ℕ) (n : ℕ)
    → numbers n (drop 2 bytes) ++ drop n table₀ ≡ overwritten (section_values n bytes) table₀
copied_all bytes table₀ n = rw (length_numbers n (drop 2 bytes))
