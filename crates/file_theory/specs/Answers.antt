-- Laws of the promises: what each way through a reader shows of its answer and its tables.
use Rattle.std.specs.Prelude.{ℕ, zero, suc, ◌+◌, ◌≤◌, true, false, cond, List, ltb, length, Result, Ok, Err, IsErrAnd}
use Rattle.std.proofs.Math.Path.{◌≡◌, refl}
use Rattle.std.proofs.Common.{sym, ap, zero-add, ◌∙◌, arith, lt-ltb, le-ltb}
use Rattle.std.proofs.lemmas.List.Edits.{sets, sets-eq}
use Rattle.rules.specs.Cases.{by_cases}
use Rattle.rules.specs.Limits.{capacities, references}
use Rattle.rules.specs.Refusals.{accepted, refuse_if, giving, first_bad_page}
use Rattle.rules.specs.AnswerLaws.{not_accepted}
use Rattle.rules.specs.declared.refusal.Refusal.{Refusal}
use Rattle.rules.specs.declared.refusal.Refusal.TheVariants.{TooManyReferences, BadCapacities, BytesLeft}
use Rattle.file_theory.specs.declared.Counts.{Counts}
use Rattle.file_theory.specs.Format.{all_numbers, section_size}
use Rattle.file_theory.specs.Decoding.{section, rising, pages_answer, pages_of, references_in, Trace, with_capacities}
use Rattle.file_theory.specs.Decoding.{trace_behind, trace_in}
use Rattle.file_theory.specs.Promises.{overwritten, values_of, part_of, PartRead, FileRead}
use Rattle.file_theory.specs.Sections.{SectionFound, found_count}

-- values put from a table's start on, one after the other, stand in front of it
pub put_in_front : (values table : List ℕ) → length values ≤ length table → sets table 0 values ≡ overwritten values table
put_in_front values table h = rw zero-add at (sets-eq values table 0 (omega arith))

-- an answer that is a refusal leaves the tables as they were
pub part_refused : (part table : List ℕ) (answer : Result ℕ Refusal) (r : Refusal) → IsErrAnd answer (λ x. x ≡ r)
    → references_in part ≡ Err r → PartRead (references_in part) table answer table
part_refused part table (Ok n) r h e = absurd h
part_refused part table (Err x) r h e = rw (h, e) (record { answered = refl; table = refl })

pub file_refused : (file caps refs : List ℕ) (answer : Result Counts Refusal) (r : Refusal) → IsErrAnd answer (λ x. x ≡ r)
    → trace_in file ≡ Err r → FileRead (trace_in file) caps refs answer caps refs
file_refused file caps refs (Ok c) r h e = absurd h
file_refused file caps refs (Err x) r h e = rw (h, e) (record { answered = refl; caps_table = refl; refs_table = refl })

-- where no section is found at the start, its refusal is the answer
pub references_missing : (part : List ℕ) (r : Refusal) → section references TooManyReferences part ≡ Err r
    → references_in part ≡ Err r
unfolding references_in
references_missing part r e = rw e

pub trace_missing : (file : List ℕ) (r : Refusal) → section capacities BadCapacities file ≡ Err r → trace_in file ≡ Err r
unfolding trace_in
trace_missing file r e = rw e

-- the part that starts at the reference section, where that is found: bytes that remain, then a bad page
module _ {part values behind : List ℕ} (f : SectionFound references part values behind) where
  pub references_found : references_in part
      ≡ giving (refuse_if (ltb 0 (length behind)) BytesLeft (first_bad_page 0 (all_numbers values) accepted)) (all_numbers values)
  unfolding references_in pages_of pages_answer
  references_found =
      let more : ltb (section_size (length (all_numbers values))) (length part) ≡ ltb 0 (length behind) =
      rw f.left (beyond (section_size (length (all_numbers values))) (length behind)) in
      rw (found_count references TooManyReferences part values behind f, f.values_are, more)
    where
      beyond : (m k : ℕ) → ltb m (m + k) ≡ ltb 0 k
      beyond m zero = rw (le-ltb m (m + 0) (omega arith))
      beyond m (suc k) = rw (lt-ltb m (m + suc k) (omega arith), lt-ltb 0 (suc k) (omega arith))

  pub bytes_remain : (r : Refusal) → Err r ≡ refuse_if (ltb 0 (length behind)) BytesLeft accepted → references_in part ≡ Err r
  bytes_remain r =
      by_cases (ltb 0 (length behind))
      (λ more. rw (references_found, more) λ e. let same : r ≡ BytesLeft = cc in rw same)
      (λ none. rw none not_accepted)

  pub page_refused : (r : Refusal) (u : Unit {0}) → Ok u ≡ refuse_if (ltb 0 (length behind)) BytesLeft accepted
      → Err r ≡ first_bad_page 0 (all_numbers values) accepted → references_in part ≡ Err r
  page_refused r u =
      by_cases (ltb 0 (length behind))
      (λ more. rw more λ e. not_accepted (sym e))
      (λ none. rw none λ e bad. rw (references_found, none, ← bad))

  pub part_taken : (table after : List ℕ) (n : ℕ) (u v : Unit {0})
      → Ok u ≡ refuse_if (ltb 0 (length behind)) BytesLeft accepted
      → Ok v ≡ first_bad_page 0 (all_numbers values) accepted → n ≡ length (all_numbers values)
      → after ≡ overwritten (all_numbers values) table → PartRead (references_in part) table (Ok n) after
  part_taken table after n u v =
      by_cases (ltb 0 (length behind))
      (λ more. rw more λ e. not_accepted (sym e))
      (λ none. rw none λ e good count copied.
      rw (references_found, none, ← good) (record { answered = ap Ok count; table = copied }))

-- the refusals of such a part, each with the table as it was
pub ruleset part_refusals = (part_refused, bytes_remain, page_refused)

-- the whole file, where a capacity section is found: capacities that break the rules, then what stands behind them
module _ {file values behind : List ℕ} (f : SectionFound capacities file values behind) where
  pub trace_found : trace_in file
      ≡ cond (rising 0 (all_numbers values)) (with_capacities (all_numbers values) (references_in behind)) (Err BadCapacities)
  unfolding trace_in trace_behind
  trace_found = rw (found_count capacities BadCapacities file values behind f, f.values_are, f.behind_is)

  pub not_rising : false ≡ rising 0 (all_numbers values) → trace_in file ≡ Err BadCapacities
  not_rising e = rw (trace_found, ← e)

  module _ (caps refs after : List ℕ) (rise : true ≡ rising 0 (all_numbers values)) where
    pub behind_refused : (answer : Result Counts Refusal) (r : Refusal) → IsErrAnd answer (λ x. x ≡ r)
        → PartRead (references_in behind) refs (Err r) after → FileRead (trace_in file) caps refs answer caps after
    behind_refused (Ok c) r h p = absurd h
    behind_refused (Err y) r h p = rw (trace_found, ← rise, h) (passed (references_in behind) p.answered p.table)
      where
        passed : (o : Result (List ℕ) Refusal) → Err r ≡ part_of o → after ≡ overwritten (values_of o) refs
            → FileRead (with_capacities (all_numbers values) o) caps refs (Err r) caps after
        passed (Ok rs) a t = not_accepted a
        passed (Err x) a t =
            record { answered = let q : r ≡ x = cc in rw q; caps_table = refl; refs_table = t }

    pub behind_read : (caps-after : List ℕ) (n m : ℕ) → PartRead (references_in behind) refs (Ok m) after
        → n ≡ length (all_numbers values) → caps-after ≡ overwritten (all_numbers values) caps
        → FileRead (trace_in file) caps refs (Ok (record { capacities = n; references = m })) caps-after after
    behind_read caps-after n m p count copied = rw (trace_found, ← rise) (passed (references_in behind) p.answered p.table)
      where
        passed : (o : Result (List ℕ) Refusal) → Ok m ≡ part_of o → after ≡ overwritten (values_of o) refs
            → FileRead (with_capacities (all_numbers values) o) caps refs
            (Ok (record { capacities = n; references = m })) caps-after after
        passed (Ok rs) a t =
            record { answered = let q : m ≡ length rs = cc in rw (q, count); caps_table = copied; refs_table = t }
        passed (Err x) a t = not_accepted (sym a)

-- two answers that both meet a promise are equal, and so are the tables they leave
pub part_read_once : {o : Result (List ℕ) Refusal} {before : List ℕ} {a b : Result ℕ Refusal} {x y : List ℕ}
    → PartRead o before a x → PartRead o before b y → (a ≡ b) × (x ≡ y)
part_read_once p q = (p.answered ∙ sym q.answered, p.table ∙ sym q.table)

pub file_read_once : {o : Result Trace Refusal} {caps refs : List ℕ} {a b : Result Counts Refusal} {x y u v : List ℕ}
    → FileRead o caps refs a x u → FileRead o caps refs b y v → (a ≡ b) × (x ≡ y) × (u ≡ v)
file_read_once p q = (p.answered ∙ sym q.answered, p.caps_table ∙ sym q.caps_table, p.refs_table ∙ sym q.refs_table)
