-- The round trip: what the encoder makes of capacities and references that keep the rules is read back as just these; an
-- accepted file is what the encoder makes of what it says; so two accepted files that say the same are the same bytes.
use Rattle.std.specs.Prelude.{ℕ, ◌≤◌, ◌≡◌, refl, true, false, List, [], ◌++◌, ltb, length, drop, Result, Ok, Err}
use Rattle.std.proofs.Common.{sym, ap, subst, ◌∙◌, append-nil, arith, le-ltb, ltb-false}
use Rattle.std.proofs.Math.Seq.{drop-length}
use Rattle.rules.specs.Cases.{by_cases}
use Rattle.rules.specs.Limits.{capacities, references}
use Rattle.rules.specs.Refusals.{Answer, accepted, first_bad_page, giving}
use Rattle.rules.specs.AnswerLaws.{not_accepted}
use Rattle.rules.specs.declared.refusal.Refusal.{Refusal}
use Rattle.rules.specs.declared.refusal.Refusal.TheVariants.{TooManyReferences, BadCapacities}
use Rattle.file_theory.specs.Format.{section_size, section_values, behind_section}
use Rattle.file_theory.specs.Encoding.{bytes_of, encode_section, encode}
use Rattle.file_theory.specs.Decoding.{section, rising, pages_answer, pages_of, references_of, references_in}
use Rattle.file_theory.specs.Decoding.{Trace, with_capacities, trace_behind, trace_of, trace_in}
use Rattle.file_theory.specs.Words.{Bytes, bytes_drop, length_numbers, length_bytes_of}
use Rattle.file_theory.specs.Sections.{WholeSection, whole_section}
use Rattle.file_theory.specs.Sections.{section_encoded, values_encoded, behind_encoded, section_again}

-- references and a trace that keep the rules (L1 to L3, R2, R3, R9)
pub record GoodReferences (rs : List ℕ) : Type 0 where
  pub few : length rs ≤ references
  pub pages : first_bad_page 0 rs accepted ≡ accepted

pub record GoodTrace (t : Trace) : Type 0 where
  pub few : length t.caps ≤ capacities
  pub rise : rising 0 t.caps ≡ true
  pub good : GoodReferences t.refs

-- nothing remains behind the last section of an encoded file
nothing_left : (rs : List ℕ) → ltb (section_size (length rs)) (length (encode_section rs)) ≡ false
unfolding bytes_of
nothing_left rs = le-ltb (section_size (length rs)) (length (encode_section rs)) (omega (arith, length_bytes_of rs))

references_back : (rs : List ℕ) → GoodReferences rs → references_in (encode_section rs) ≡ Ok rs
unfolding references_in pages_answer pages_of
references_back rs g =
    let s : section references TooManyReferences (encode_section rs) ≡ Ok (length rs) =
    rw append-nil at (section_encoded rs [] references TooManyReferences g.few) in
    let v : section_values (length rs) (encode_section rs) ≡ rs = rw append-nil at (values_encoded rs []) in
    rw s (rw (v, nothing_left rs, g.pages))

-- what is written is read back
pub read_back : (t : Trace) → GoodTrace t → trace_in (encode t.caps t.refs) ≡ Ok t
unfolding trace_in trace_behind
read_back t g =
    let rest = encode_section t.refs in
    rw (section_encoded t.caps rest capacities BadCapacities g.few)
    (rw (values_encoded t.caps rest, behind_encoded t.caps rest, g.rise, references_back t.refs g.good))

-- what an accepted part of references tells
record PartSays (part rs : List ℕ) : Type 0 where
  good : GoodReferences rs
  again : Bytes part → encode_section rs ≡ part

part_says : (part rs : List ℕ) → references_in part ≡ Ok rs → PartSays part rs
unfolding references_in pages_answer pages_of
part_says part rs = go (section references TooManyReferences part) refl
  where
    ended : (n : ℕ) → WholeSection references part n → ltb (section_size n) (length part) ≡ false → Bytes part
        → encode_section (section_values n part) ≡ part
    ended n f left all =
        let size : section_size n ≡ length part = omega (arith, ltb-false (section_size n) (length part) left) in
        let none : behind_section n part ≡ [] = rw size (drop-length part) in
        sym (append-nil (encode_section (section_values n part)))
        ∙ ap {B = List ℕ} (λ t. encode_section (section_values n part) ++ t) (sym none)
        ∙ section_again references part n all f

    paged : (n : ℕ) → WholeSection references part n → ltb (section_size n) (length part) ≡ false
        → (a : Answer) → first_bad_page 0 (section_values n part) accepted ≡ a
        → giving a (section_values n part) ≡ Ok rs → PartSays part rs
    paged n f left (Err r) b e = not_accepted e
    paged n f left (Ok u) b e =
        let p : section_values n part ≡ rs = cc in
        subst (λ (v : List ℕ). PartSays part v) p
        (record {
          good = record { few = omega (arith, length_numbers n (drop 2 part), f.within); pages = b };
          again = ended n f left;
        })

    go : (s : Result ℕ Refusal) → section references TooManyReferences part ≡ s → references_of part s ≡ Ok rs → PartSays part rs
    go (Err r) q = not_accepted
    go (Ok n) q =
        by_cases (ltb (section_size n) (length part))
        (λ left. rw left not_accepted)
        (λ none. rw none λ e.
        let found = whole_section references TooManyReferences part n q in
        paged n found none (first_bad_page 0 (section_values n part) accepted) refl e)

-- what an accepted file tells
pub record FileSays (file : List ℕ) (t : Trace) : Type 0 where
  pub good : GoodTrace t
  pub again : Bytes file → encode t.caps t.refs ≡ file

-- an accepted file keeps the rules and is what the encoder makes of what it says
pub file_says : (file : List ℕ) (t : Trace) → trace_in file ≡ Ok t → FileSays file t
unfolding trace_in trace_behind
file_says file t = go (section capacities BadCapacities file) refl
  where
    whole : (n : ℕ) → WholeSection capacities file n → rising 0 (section_values n file) ≡ true → (o : Result (List ℕ) Refusal)
        → references_in (behind_section n file) ≡ o → with_capacities (section_values n file) o ≡ Ok t → FileSays file t
    whole n f r (Err x) q e = not_accepted e
    whole n f r (Ok rs) q e =
        let p : ◌≡◌ {A = Trace} (record { caps = section_values n file; refs = rs }) t = cc in
        let part = part_says (behind_section n file) rs q in
        subst (λ (u : Trace). FileSays file u) p
        (record {
          good = record { few = omega (arith, length_numbers n (drop 2 file), f.within); rise = r; good = part.good };
          again = λ all.
              ap {B = List ℕ} (λ u. encode_section (section_values n file) ++ u)
              (part.again (bytes_drop (section_size n) file all))
              ∙ section_again capacities file n all f;
        })

    go : (s : Result ℕ Refusal) → section capacities BadCapacities file ≡ s → trace_of file s ≡ Ok t → FileSays file t
    go (Err r) q = not_accepted
    go (Ok n) q =
        by_cases (rising 0 (section_values n file))
        (λ r. rw r λ e.
        whole n (whole_section capacities BadCapacities file n q) r (references_in (behind_section n file)) refl e)
        (λ r. rw r not_accepted)

-- two accepted files that say the same are the same bytes
pub same_bytes : (file other : List ℕ) (t : Trace) → Bytes file → Bytes other → trace_in file ≡ Ok t → trace_in other ≡ Ok t
    → file ≡ other
same_bytes file other t a b p q = sym ((file_says file t p).again a) ∙ (file_says other t q).again b
