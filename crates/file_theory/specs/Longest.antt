-- The longest file (docs/RULES.md, F5): no accepted file is longer, and of a longer input its first bytes, one more than the
-- longest file has, say all.
use Rattle.std.specs.Prelude.{ℕ, suc, ◌+◌, ◌≤◌, ◌<◌, ◌≡◌, cond, List, ltb, length, take, Ok, Err}
use Rattle.std.proofs.Common.{sym, ap, ◌∙◌, arith, lt-ltb, le-ltb, ltb-true, ltb-false, length-append, length-drop}
use Rattle.std.proofs.Common.{length-take-le, get_or-take, take_all}
use Rattle.rules.specs.Cases.{by_cases}
use Rattle.rules.specs.Limits.{capacities, references}
use Rattle.rules.specs.declared.refusal.Refusal.{Refusal}
use Rattle.rules.specs.declared.refusal.Refusal.TheVariants.{TooManyReferences, BadCapacities, BytesLeft}
use Rattle.file_theory.specs.Format.{number_at, numbers, section_size, section_values, behind_section, longest, Came}
use Rattle.file_theory.specs.Encoding.{bytes_of}
use Rattle.file_theory.specs.Decoding.{section, pages_answer, pages_of, references_in, Trace, trace_behind, trace_in}
use Rattle.file_theory.specs.Words.{Bytes, number_at_drop, numbers_take, length_bytes_of}
use Rattle.file_theory.specs.RoundTrip.{file_says}

-- F5: an accepted file is no longer
pub accepted_short : (file : List ℕ) (t : Trace) → Bytes file → trace_in file ≡ Ok t → length file ≤ longest
unfolding bytes_of
accepted_short file t all e =
    let told = file_says file t e in
    let size = ap length (told.again all) in
    let good = told.good in
    omega (
      arith,
      simp length-append at size,
      length_bytes_of t.caps,
      length_bytes_of t.refs,
      good.few,
      good.good.few,
    )

-- bytes enough for a full section hold the section that their count says
long_section : (limit : ℕ) (over : Refusal) (bytes : List ℕ) → section_size limit ≤ length bytes
    → section limit over bytes ≡ cond (ltb limit (number_at bytes 0)) (Err over) (Ok (number_at bytes 0))
long_section limit over bytes h =
    rw (le-ltb (length bytes) 2 (omega arith))
    (by_cases (ltb limit (number_at bytes 0))
    (λ above. rw above)
    (λ within.
    let few : number_at bytes 0 ≤ limit = ltb-false limit (number_at bytes 0) within in
    rw (within, le-ltb (length bytes) (section_size (number_at bytes 0)) (omega arith))))

-- a part longer than a full reference section is refused by its count alone
long_part : (part : List ℕ) → section_size references < length part
    → references_in part
    ≡ cond (ltb references (number_at part 0)) (Err TooManyReferences) (Err BytesLeft)
unfolding references_in pages_of pages_answer
long_part part h =
    rw (long_section references TooManyReferences part (omega arith))
    (by_cases (ltb references (number_at part 0))
    (λ over. rw over)
    (λ within.
    let few : number_at part 0 ≤ references = ltb-false references (number_at part 0) within in
    rw (within, lt-ltb (section_size (number_at part 0)) (length part) (omega arith))))

module _ (file : List ℕ) (long : longest < length file) where
  abbrev first : List ℕ
  first = take (suc longest) file

  first_length : length first ≡ suc longest
  first_length = length-take-le (suc longest) file long

  same_number : (i : ℕ) → i + 1 < suc longest → number_at first i ≡ number_at file i
  same_number i h = rw (get_or-take (suc longest) file i 0 (omega arith), get_or-take (suc longest) file (i + 1) 0 h)

  same_values : (n : ℕ) → n ≤ capacities → section_values n first ≡ section_values n file
  unfolding numbers
  same_values n h = let e = numbers_take (suc n) (suc longest) file (omega arith) in cc

  same_behind : (n : ℕ) → n ≤ capacities → references_in (behind_section n first) ≡ references_in (behind_section n file)
  same_behind n h =
      let at : number_at (behind_section n first) 0 ≡ number_at (behind_section n file) 0 =
      number_at_drop (section_size n) first 0
      ∙ same_number (section_size n + 0) (omega arith)
      ∙ sym (number_at_drop (section_size n) file 0) in
      rw (
        long_part (behind_section n first) (omega (arith, length-drop (section_size n) first, first_length)),
        long_part (behind_section n file) (omega (arith, length-drop (section_size n) file)),
        at,
      )

  same_trace : (n : ℕ) → n ≤ capacities → trace_behind first n ≡ trace_behind file n
  unfolding trace_behind
  same_trace n h = rw (same_values n h, same_behind n h)

  -- F5: the program reads one byte more than the longest file, and that says what the whole input says
  pub first_bytes : trace_in first ≡ trace_in file
  unfolding trace_in
  first_bytes =
      rw (
        long_section capacities BadCapacities first (omega (arith, first_length)),
        long_section capacities BadCapacities file (omega arith),
        same_number 0 (omega arith),
      )
      (by_cases (ltb capacities (number_at file 0))
      (λ over. rw over)
      (λ within. rw within (same_trace (number_at file 0) (ltb-false capacities (number_at file 0) within))))

-- what came is read as the whole input is
pub came_says : (n : ℕ) (buffer input : List ℕ) → Came n buffer input → trace_in (take n buffer) ≡ trace_in input
came_says n buffer input came =
    rw came
    (by_cases (ltb longest (length input))
    (λ long. first_bytes input (ltb-true longest (length input) long))
    (λ short. rw (take_all (suc longest) input (omega (arith, ltb-false longest (length input) short)))))
