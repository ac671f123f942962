-- Laws of one section: an encoded section is found whole, and a section that is found is the encoding of its values.
use Prim.Native.Nat.{ℕ, suc, ◌+◌, ◌*◌, ◌%◌, ◌/◌, ◌-◌, ◌≤◌, ◌<◌}
use Rattle.std.specs.Prelude.{◌≡◌, List, ◌∷◌, ◌++◌, ltb, take, drop, Result, Ok, Err}
use Rattle.std.proofs.Common.{sym, ap, ◌∙◌, lt-ltb, le-ltb, ltb-false, take-append-drop, drop_at, drop-drop, length-drop}
use native.Mathlib.Omega.{arith}
use Rattle.std.proofs.Math.ListN.{length, length-append}
use Rattle.rules.specs.Cases.{by_cases}
use Rattle.rules.specs.AnswerLaws.{not_accepted}
use Rattle.rules.specs.declared.refusal.Refusal.{Refusal}
use Rattle.rules.specs.declared.refusal.Refusal.TheVariants.{CutFile}
use Rattle.file_theory.specs.Format.{number_at, numbers, all_numbers, section_size, section_values, behind_section}
use Rattle.file_theory.specs.Encoding.{bytes_of, encode_section}
use Rattle.file_theory.specs.Decoding.{section}
use Rattle.file_theory.specs.Words.{Bytes, length_numbers, length_bytes_of, numbers_bytes_of, bytes_of_numbers}
use Rattle.file_theory.specs.Words.{all_numbers_take, to_the_end}

-- what a section that is found tells of its bytes
pub record WholeSection (limit : ℕ) (bytes : List ℕ) (n : ℕ) : Type 0 where
  pub count : number_at bytes 0 ≡ n
  pub within : n ≤ limit
  pub whole : section_size n ≤ length bytes

pub whole_section : (limit : ℕ) (over : Refusal) (bytes : List ℕ) (n : ℕ)
    → section limit over bytes ≡ Ok n → WholeSection limit bytes n
whole_section limit over bytes n =
    by_cases (ltb (length bytes) 2)
    (λ short. rw short not_accepted)
    (λ long. rw long
    (by_cases (ltb limit (number_at bytes 0))
    (λ above. rw above not_accepted)
    (λ within. rw within
    (by_cases (ltb (length bytes) (section_size (number_at bytes 0)))
    (λ part. rw part not_accepted)
    (λ whole. rw whole λ e. made (counted e) (ltb-false _ _ within) (ltb-false _ _ whole))))))
  where
    counted : ◌≡◌ {A = Result ℕ Refusal} (Ok (number_at bytes 0)) (Ok n) → number_at bytes 0 ≡ n
    counted e = cc

    made : number_at bytes 0 ≡ n → number_at bytes 0 ≤ limit → section_size (number_at bytes 0) ≤ length bytes
        → WholeSection limit bytes n
    made e w l = record { count = e; within = omega arith; whole = omega arith }

-- a section that is found, cut in two: the bytes of its values, and the bytes behind it
pub record SectionFound (limit : ℕ) (bytes values behind : List ℕ) : Type 0 where
  pub counted : number_at bytes 0 ≡ length (all_numbers values)
  pub few : length (all_numbers values) ≤ limit
  pub values_are : section_values (length (all_numbers values)) bytes ≡ all_numbers values
  pub behind_is : behind_section (length (all_numbers values)) bytes ≡ behind
  pub left : length bytes ≡ section_size (length (all_numbers values)) + length behind

module _ (limit : ℕ) (bytes values behind : List ℕ) where
  -- what is cut so from the bytes behind the count, where the section is whole, is such a section
  pub found_whole : 2 ≤ length bytes → number_at bytes 0 ≤ limit → section_size (number_at bytes 0) ≤ length bytes
      → values ≡ take (2 * number_at bytes 0) (take (length bytes - 2) (drop 2 bytes))
      → behind ≡ drop (2 * number_at bytes 0) (take (length bytes - 2) (drop 2 bytes))
      → SectionFound limit bytes values behind
  found_whole long within whole front back =
      let n = number_at bytes 0 in
      let size : 2 * n ≤ length (drop 2 bytes) = omega (arith, length-drop 2 bytes) in
      let numbered : all_numbers values ≡ section_values n bytes =
      rw (front, to_the_end 2 bytes) (all_numbers_take n (drop 2 bytes) size) in
      let count : length (all_numbers values) ≡ n = rw numbered (length_numbers n (drop 2 bytes)) in
      let rest : behind_section n bytes ≡ behind = rw (back, to_the_end 2 bytes) (sym (drop-drop (2 * n) 2 bytes)) in
      record {
        counted = sym count;
        few = rw count within;
        values_are = rw count (sym numbered);
        behind_is = rw count rest;
        left = rw count (omega (arith, ap length rest, length-drop (section_size n) bytes));
      }

pub found_count : (limit : ℕ) (over : Refusal) (bytes values behind : List ℕ) → SectionFound limit bytes values behind
    → section limit over bytes ≡ Ok (length (all_numbers values))
found_count limit over bytes values behind f =
    rw (
      f.counted,
      le-ltb (length bytes) 2 (omega (arith, f.left)),
      le-ltb limit (length (all_numbers values)) f.few,
      le-ltb (length bytes) (section_size (length (all_numbers values))) (omega (arith, f.left)),
    )

-- the section of some values, before any rest, is found whole
module _ (values rest : List ℕ) where
  whole_count : number_at (encode_section values ++ rest) 0 ≡ length values
  unfolding bytes_of
  whole_count = let e : length values % 256 + 256 * (length values / 256) ≡ length values = omega arith in e

  whole_length : length (encode_section values ++ rest) ≡ section_size (length values) + length rest
  unfolding bytes_of
  whole_length = simp length-append (omega (arith, length_bytes_of values))

  pub section_encoded : (limit : ℕ) (over : Refusal) → length values ≤ limit
      → section limit over (encode_section values ++ rest) ≡ Ok (length values)
  section_encoded limit over h =
      rw (
        whole_count,
        whole_length,
        le-ltb (section_size (length values) + length rest) 2 (omega arith),
        le-ltb limit (length values) h,
        le-ltb (section_size (length values) + length rest) (section_size (length values)) (omega arith),
      )

  pub values_encoded : section_values (length values) (encode_section values ++ rest) ≡ values
  unfolding bytes_of
  values_encoded = numbers_bytes_of values rest

  pub behind_encoded : behind_section (length values) (encode_section values ++ rest) ≡ rest
  unfolding bytes_of
  behind_encoded =
      let e : 2 + 2 * length values ≡ suc (suc (2 * length values)) = omega arith in
      rw e (drop_at (bytes_of values) rest (2 * length values) (length_bytes_of values))

-- a section that is found, with what stands behind it, is the bytes themselves
pub section_again : (limit : ℕ) (bytes : List ℕ) (n : ℕ) → Bytes bytes → WholeSection limit bytes n
    → encode_section (section_values n bytes) ++ behind_section n bytes ≡ bytes
unfolding numbers
section_again limit bytes n all f =
    let whole : 2 * suc n ≤ length bytes = omega arith in
    let e : 2 * suc n ≡ section_size n = omega arith in
    ap {B = List ℕ} (λ k. bytes_of (k ∷ section_values n bytes) ++ behind_section n bytes)
    (length_numbers n (drop 2 bytes) ∙ sym f.count)
    ∙ ap {B = List ℕ} (λ t. t ++ behind_section n bytes) (bytes_of_numbers (suc n) bytes all whole)
    ∙ ap {B = List ℕ} (λ k. take k bytes ++ behind_section n bytes) e
    ∙ take-append-drop (section_size n) bytes

-- which answer it is, from the count as a reader has it
module _ (limit : ℕ) (over : Refusal) (bytes : List ℕ) (n : ℕ) (long : 2 ≤ length bytes) (here : n ≡ number_at bytes 0) where
  pub is_over : limit < n → Err over ≡ section limit over bytes
  is_over h = rw (le-ltb (length bytes) 2 long, ← here, lt-ltb limit n h)

  pub is_cut : n ≤ limit → length bytes < section_size n → Err CutFile ≡ section limit over bytes
  is_cut h l = rw (le-ltb (length bytes) 2 long, ← here, le-ltb limit n h, lt-ltb (length bytes) (section_size n) l)

  pub is_whole : n ≤ limit → section_size n ≤ length bytes → Ok n ≡ section limit over bytes
  is_whole h l = rw (le-ltb (length bytes) 2 long, ← here, le-ltb limit n h, le-ltb (length bytes) (section_size n) l)
