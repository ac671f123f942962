-- Laws of the promises by the counts of the sections: what each way through a reader shows of its answer and its tables, from
-- what its sections are and what their values say.
use Rattle.std.specs.Prelude.{ℕ, ◌-◌, Bool, true, false, List, ltb, length, take, drop, Result, Ok, Err}
use Rattle.std.proofs.Math.Path.{◌≡◌, refl, ap}
use Rattle.std.proofs.Common.{sym, ◌∙◌}
use Rattle.rules.specs.Limits.{capacities, references}
use Rattle.rules.specs.Refusals.{Answer, accepted, refuse_if, when_accepted, first_bad_page}
use Rattle.rules.specs.AnswerLaws.{not_accepted}
use Rattle.rules.specs.declared.refusal.Refusal.{Refusal}
use Rattle.rules.specs.declared.refusal.Refusal.TheVariants.{TooManyReferences, CutFile, BadCapacities, BytesLeft}
use Rattle.file_theory.specs.declared.Counts.{Counts}
use Rattle.file_theory.specs.Format.{section_size, section_values, behind_section}
use Rattle.file_theory.specs.Decoding.{section, rising, pages_answer, pages_of, references_in, with_capacities}
use Rattle.file_theory.specs.Decoding.{trace_behind, trace_in}
use Rattle.file_theory.specs.Promises.{overwritten, values_of, part_of, PartRead, FileRead}
use Rattle.file_theory.specs.Words.{length_numbers, to_the_end}

-- the references of a section that is whole: of the two checks' answers the first that refuses is the order of refusals
module _ (part : List ℕ) (n : ℕ) where
  pub in_order : {left bad answer : Answer} → answer ≡ when_accepted left bad left
      → left ≡ refuse_if (ltb (section_size n) (length part)) BytesLeft accepted
      → bad ≡ first_bad_page 0 (section_values n part) accepted
      → answer ≡ pages_answer part n
  unfolding pages_answer
  in_order e l b = e ∙ rw (l, b) (joined (ltb (section_size n) (length part)) (first_bad_page 0 (section_values n part) accepted))
    where
      joined : (more : Bool) (rest : Answer)
          → when_accepted (refuse_if more BytesLeft accepted) rest (refuse_if more BytesLeft accepted)
          ≡ refuse_if more BytesLeft rest
      joined true rest = refl
      joined false rest = refl

  pub pages_refused : (table : List ℕ) (r : Refusal) → Err r ≡ pages_answer part n
      → PartRead (pages_of part n) table (Err r) table
  unfolding pages_of
  pages_refused table r e = rw (← e) (record { answered = refl; table = refl })

  pub pages_taken : (table after : List ℕ) → accepted ≡ pages_answer part n → after ≡ overwritten (section_values n part) table
      → PartRead (pages_of part n) table (Ok n) after
  unfolding pages_of
  pages_taken table after e copied = rw (← e) (record { answered = rw (length_numbers n (drop 2 part)); table = copied })

-- the part that starts at the reference section
module _ (part table : List ℕ) where
  pub part_cut : Err CutFile ≡ section references TooManyReferences part → PartRead (references_in part) table (Err CutFile) table
  unfolding references_in
  part_cut e = rw (← e) (record { answered = refl; table = refl })

  pub part_over : Err TooManyReferences ≡ section references TooManyReferences part
      → PartRead (references_in part) table (Err TooManyReferences) table
  unfolding references_in
  part_over e = rw (← e) (record { answered = refl; table = refl })

  pub part_whole : (n : ℕ) (answer : Result ℕ Refusal) (after : List ℕ) → Ok n ≡ section references TooManyReferences part
      → PartRead (pages_of part n) table answer after → PartRead (references_in part) table answer after
  unfolding references_in
  part_whole n answer after e p = rw (← e) p

-- F3: the part handed on runs to the end of the file, and its answer is looked at by its cases
pub handed_on : (file : List ℕ) (n : ℕ) (before : List ℕ) {answer case : Result ℕ Refusal} {after : List ℕ}
    → PartRead (references_in (take (length file - section_size n) (behind_section n file))) before answer after
    → answer ≡ case → PartRead (references_in (behind_section n file)) before case after
handed_on file n before p e = rw (to_the_end (section_size n) file, e) at p

-- what stands behind capacities that keep the rules
module _ (file : List ℕ) (n : ℕ) (caps refs : List ℕ) where
  pub not_rising : rising 0 (section_values n file) ≡ false
      → FileRead (trace_behind file n) caps refs (Err BadCapacities) caps refs
  unfolding trace_behind
  not_rising e = rw e (record { answered = refl; caps_table = refl; refs_table = refl })

  pub behind_refused : (r : Refusal) (after : List ℕ) → rising 0 (section_values n file) ≡ true
      → PartRead (references_in (behind_section n file)) refs (Err r) after
      → FileRead (trace_behind file n) caps refs (Err r) caps after
  unfolding trace_behind
  behind_refused r after e p = rw e (passed (references_in (behind_section n file)) p.answered p.table)
    where
      passed : (o : Result (List ℕ) Refusal) → Err r ≡ part_of o → after ≡ overwritten (values_of o) refs
          → FileRead (with_capacities (section_values n file) o) caps refs (Err r) caps after
      passed (Ok rs) a t = not_accepted a
      passed (Err x) a t =
          record { answered = ap Err (let q : r ≡ x = cc in q); caps_table = refl; refs_table = t }

  pub behind_read : (m : ℕ) (caps-after after : List ℕ) → rising 0 (section_values n file) ≡ true
      → PartRead (references_in (behind_section n file)) refs (Ok m) after
      → caps-after ≡ overwritten (section_values n file) caps
      → FileRead (trace_behind file n) caps refs (Ok (record { capacities = n; references = m })) caps-after after
  unfolding trace_behind
  behind_read m caps-after after e p copied = rw e (passed (references_in (behind_section n file)) p.answered p.table)
    where
      passed : (o : Result (List ℕ) Refusal) → Ok m ≡ part_of o → after ≡ overwritten (values_of o) refs
          → FileRead (with_capacities (section_values n file) o) caps refs
          (Ok (record { capacities = n; references = m })) caps-after after
      passed (Ok rs) a t =
          let q : m ≡ length rs = cc in
          record { answered = rw (q, length_numbers n (drop 2 file)); caps_table = copied; refs_table = t }
      passed (Err x) a t = not_accepted (sym a)

-- the whole file
module _ (file caps refs : List ℕ) where
  pub file_cut : Err CutFile ≡ section capacities BadCapacities file
      → FileRead (trace_in file) caps refs (Err CutFile) caps refs
  unfolding trace_in
  file_cut e = rw (← e) (record { answered = refl; caps_table = refl; refs_table = refl })

  pub file_over : Err BadCapacities ≡ section capacities BadCapacities file
      → FileRead (trace_in file) caps refs (Err BadCapacities) caps refs
  unfolding trace_in
  file_over e = rw (← e) (record { answered = refl; caps_table = refl; refs_table = refl })

  pub file_whole : (n : ℕ) (answer : Result Counts Refusal) (caps-after after : List ℕ)
      → Ok n ≡ section capacities BadCapacities file
      → FileRead (trace_behind file n) caps refs answer caps-after after
      → FileRead (trace_in file) caps refs answer caps-after after
  unfolding trace_in
  file_whole n answer caps-after after e p = rw (← e) p
