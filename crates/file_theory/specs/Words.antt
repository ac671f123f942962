-- Laws of the numbers of a file (Format, Encoding): how many, which one stands at an index, and that writing numbers as bytes
-- and reading bytes as numbers undo each other.
use Rattle.std.specs.Prelude.{ℕ, zero, suc, ◌+◌, ◌-◌, ◌*◌, ◌%◌, ◌/◌, ◌≤◌, ◌<◌, ◌≡◌, refl, List, [], ◌∷◌, ◌++◌}
use Rattle.std.specs.Prelude.{length, get_or, take, drop}
use Rattle.std.proofs.Common.{ap, ap₂, ◌∙◌, not-suc-le-zero, le_of_suc-le-suc, arith, length-drop, get_or-drop, take_all}
use Rattle.std.proofs.lemmas.Bool.Decides.{nat_tests}
use Rattle.file_theory.specs.Format.{number_at, numbers, all_numbers, section_values}
use Rattle.file_theory.specs.Encoding.{bytes_of}

-- every element is a byte; past the end `get_or` gives 0, which is one
abbrev pub Bytes : List ℕ → Type 0
Bytes bytes = (i : ℕ) → get_or bytes i 0 < 256

pub bytes_drop : (n : ℕ) (bytes : List ℕ) → Bytes bytes → Bytes (drop n bytes)
bytes_drop n bytes h i = rw get_or-drop (h (n + i))

pub number_at_drop : (n : ℕ) (bytes : List ℕ) (i : ℕ) → number_at (drop n bytes) i ≡ number_at bytes (n + i)
number_at_drop n bytes i =
    let e : n + (i + 1) ≡ (n + i) + 1 = omega arith in
    rw (get_or-drop n bytes i, get_or-drop n bytes (i + 1), e)

pub length_numbers : (n : ℕ) (bytes : List ℕ) → length (numbers n bytes) ≡ n
unfolding numbers
length_numbers zero bytes = refl
length_numbers (suc n) bytes = ap suc (length_numbers n (drop 2 bytes))

pub get_d_numbers : (n : ℕ) (bytes : List ℕ) (i : ℕ) → i < n → get_or (numbers n bytes) i 0 ≡ number_at bytes (2 * i)
unfolding numbers
get_d_numbers zero bytes i h = absurd (not-suc-le-zero h)
get_d_numbers (suc n) bytes zero h = refl
get_d_numbers (suc n) bytes (suc i) h =
    let e : 2 + 2 * i ≡ 2 * suc i = omega arith in
    get_d_numbers n (drop 2 bytes) i (le_of_suc-le-suc h) ∙ number_at_drop 2 bytes (2 * i) ∙ ap (number_at bytes) e

-- value i of the section that some bytes start with
pub value_at : (n : ℕ) (bytes : List ℕ) (i : ℕ) → i < n → get_or (section_values n bytes) i 0 ≡ number_at bytes (2 + 2 * i)
value_at n bytes i h = get_d_numbers n (drop 2 bytes) i h ∙ number_at_drop 2 bytes (2 * i)

-- one number more
pub numbers_more : (n : ℕ) (bytes : List ℕ) → numbers (suc n) bytes ≡ numbers n bytes ++ (number_at bytes (2 * n) ∷ [])
unfolding numbers
numbers_more zero bytes = refl
numbers_more (suc n) bytes =
    let e : 2 + 2 * n ≡ 2 * suc n = omega arith in
    ap {B = List ℕ} (λ t. number_at bytes 0 ∷ t) (
    numbers_more n (drop 2 bytes)
    ∙ ap {B = List ℕ} (λ v. numbers n (drop 2 bytes) ++ (v ∷ [])) (number_at_drop 2 bytes (2 * n) ∙ ap (number_at bytes) e))

-- all numbers of some bytes: a turn takes two bytes, which are a number, and fewer than two are none
pub pair_number : (pair rest : List ℕ) → length pair ≡ 2 → all_numbers (pair ++ rest) ≡ number_at pair 0 ∷ all_numbers rest
unfolding all_numbers
pair_number [] rest h = absurd (omega arith)
pair_number (a ∷ []) rest h = absurd (omega arith)
pair_number (a ∷ b ∷ []) rest h = refl
pair_number (a ∷ b ∷ c ∷ more) rest h = absurd (omega arith)

pub no_number : (bytes : List ℕ) → length bytes < 2 → all_numbers bytes ≡ []
unfolding all_numbers
no_number [] h = refl
no_number (a ∷ []) h = refl
no_number (a ∷ b ∷ bytes) h = absurd (omega arith)

-- half as many numbers as bytes
pub count_numbers : (bytes : List ℕ) → length bytes / 2 ≡ length (all_numbers bytes)
unfolding all_numbers
count_numbers [] = refl
count_numbers (a ∷ []) = refl
count_numbers (a ∷ b ∷ bytes) = let ih = count_numbers bytes in omega arith

-- what a loop over the numbers of some bytes goes by, two bytes a turn
pub ruleset turns = (pair_number, no_number, count_numbers, nat_tests)

-- all the numbers of the first n numbers' bytes are these
pub all_numbers_take : (n : ℕ) (bytes : List ℕ) → 2 * n ≤ length bytes → all_numbers (take (2 * n) bytes) ≡ numbers n bytes
unfolding numbers all_numbers
all_numbers_take zero bytes h = refl
all_numbers_take (suc n) [] h = absurd (omega arith)
all_numbers_take (suc n) (a ∷ []) h = absurd (omega arith)
all_numbers_take (suc n) (a ∷ b ∷ bytes) h =
    let e : 2 * suc n ≡ suc (suc (2 * n)) = omega arith in
    rw e (ap {B = List ℕ} (λ t. (a + 256 * b) ∷ t) (all_numbers_take n bytes (omega arith)))

-- only the bytes of the numbers matter
pub numbers_take : (n m : ℕ) (bytes : List ℕ) → 2 * n ≤ m → numbers n (take m bytes) ≡ numbers n bytes
unfolding numbers
numbers_take zero m bytes h = refl
numbers_take (suc n) zero bytes h = absurd (omega arith)
numbers_take (suc n) (suc zero) bytes h = absurd (omega arith)
numbers_take (suc n) (suc (suc m)) [] h = refl
numbers_take (suc n) (suc (suc m)) (a ∷ []) h = refl
numbers_take (suc n) (suc (suc m)) (a ∷ b ∷ bytes) h =
    ap {B = List ℕ} (λ t. (a + 256 * b) ∷ t) (numbers_take n m bytes (omega arith))

pub length_bytes_of : (values : List ℕ) → length (bytes_of values) ≡ 2 * length values
unfolding bytes_of
length_bytes_of [] = refl
length_bytes_of (v ∷ values) = let ih = length_bytes_of values in omega arith

-- what is written is read back
pub numbers_bytes_of : (values rest : List ℕ) → numbers (length values) (bytes_of values ++ rest) ≡ values
unfolding bytes_of numbers
numbers_bytes_of [] rest = refl
numbers_bytes_of (v ∷ values) rest =
    let e : v % 256 + 256 * (v / 256) ≡ v = omega arith in
    ap₂ {C = List ℕ} (λ a t. a ∷ t) e (numbers_bytes_of values rest)

-- what is read is what was written, of bytes
pub bytes_of_numbers : (n : ℕ) (bytes : List ℕ) → Bytes bytes → 2 * n ≤ length bytes
    → bytes_of (numbers n bytes) ≡ take (2 * n) bytes
unfolding bytes_of numbers
bytes_of_numbers zero bytes all h = refl
bytes_of_numbers (suc n) [] all h = absurd (omega arith)
bytes_of_numbers (suc n) (a ∷ []) all h = absurd (omega arith)
bytes_of_numbers (suc n) (a ∷ b ∷ bytes) all h =
    let low : a < 256 = all 0 in
    let ea : (a + 256 * b) % 256 ≡ a = omega arith in
    let eb : (a + 256 * b) / 256 ≡ b = omega arith in
    let e : 2 * suc n ≡ suc (suc (2 * n)) = omega arith in
    rw (ea, eb, e, bytes_of_numbers n bytes (λ i. all (suc (suc i))) (omega arith))

-- F3: a part that runs to the end of the file is all that stands from its start
pub to_the_end : (at : ℕ) (bytes : List ℕ) → take (length bytes - at) (drop at bytes) ≡ drop at bytes
to_the_end at bytes = take_all (length bytes - at) (drop at bytes) (omega (arith, length-drop at bytes))
