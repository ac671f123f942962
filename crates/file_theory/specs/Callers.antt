-- What the file reader's answer tells whoever called it: the trace stands in front of the two tables, and keeps the rules.
use Rattle.std.specs.Prelude.{ℕ, ◌≤◌, ◌≡◌, List, length, take, drop, Result, Ok, Err}
use Rattle.std.proofs.Common.{ap, sym, ◌∙◌, arith, length-append}
use Rattle.std.proofs.Math.Seq.{take-append_seam}
use Rattle.rules.specs.AnswerLaws.{not_accepted}
use Rattle.rules.specs.declared.refusal.Refusal.{Refusal}
use Rattle.file_theory.specs.declared.Counts.{Counts}
use Rattle.file_theory.specs.Decoding.{Trace, trace_in}
use Rattle.file_theory.specs.Promises.{reading_of, FileRead}
use Rattle.file_theory.specs.Words.{Bytes}
use Rattle.file_theory.specs.RoundTrip.{GoodTrace, file_says, same_bytes}

-- the trace in front of two tables
abbrev pub in_front : List ℕ → List ℕ → Counts → Trace
in_front caps refs counts = record { caps = take counts.capacities caps; refs = take counts.references refs }

-- two tables with a trace in front that keeps the rules
pub record Handed (caps refs : List ℕ) (counts : Counts) : Type 0 where
  pub caps_within : counts.capacities ≤ length caps
  pub refs_within : counts.references ≤ length refs
  pub good : GoodTrace (in_front caps refs counts)

record Accepts (outcome : Result Trace Refusal) (caps refs : List ℕ) (counts : Counts) : Type 0 where
  says_it : outcome ≡ Ok (in_front caps refs counts)
  caps_within : counts.capacities ≤ length caps
  refs_within : counts.references ≤ length refs

module _ {caps-before refs-before caps refs : List ℕ} {answer : Result Counts Refusal} where
  accepts : (counts : Counts) (outcome : Result Trace Refusal) → FileRead outcome caps-before refs-before answer caps refs
      → answer ≡ Ok counts → Accepts outcome caps refs counts
  accepts counts (Err r) p e = not_accepted (sym p.answered ∙ e)
  accepts counts (Ok t) p e =
      let same : counts ≡ record { capacities = length t.caps; references = length t.refs } = let q = p.answered in cc in
      let n : counts.capacities ≡ length t.caps = ap (λ (x : Counts). x.capacities) same in
      let m : counts.references ≡ length t.refs = ap (λ (x : Counts). x.references) same in
      let caps-behind = drop (length t.caps) caps-before in
      let refs-behind = drop (length t.refs) refs-before in
      let c : take (length t.caps) caps ≡ t.caps = rw p.caps_table (take-append_seam t.caps caps-behind) in
      let r : take (length t.refs) refs ≡ t.refs = rw p.refs_table (take-append_seam t.refs refs-behind) in
      record {
        says_it = rw (n, m, c, r);
        caps_within = omega (arith, n, ap length p.caps_table, length-append t.caps caps-behind);
        refs_within = omega (arith, m, ap length p.refs_table, length-append t.refs refs-behind);
      }

  module _ (file : List ℕ) (p : FileRead (trace_in file) caps-before refs-before answer caps refs) where
    pub accepted_says : (counts : Counts) → answer ≡ Ok counts → trace_in file ≡ Ok (in_front caps refs counts)
    accepted_says counts e = (accepts counts (trace_in file) p e).says_it

    pub accepted_handed : (counts : Counts) → answer ≡ Ok counts → Handed caps refs counts
    accepted_handed counts e =
        let t = accepts counts (trace_in file) p e in
        let said = file_says file (in_front caps refs counts) t.says_it in
        record { caps_within = t.caps_within; refs_within = t.refs_within; good = said.good }

    pub refused_says : (r : Refusal) → answer ≡ Err r → trace_in file ≡ Err r
    refused_says r e = go (trace_in file) p.answered
      where
        go : (o : Result Trace Refusal) → answer ≡ reading_of o → o ≡ Err r
        go (Ok t) a = not_accepted (sym e ∙ a)
        go (Err x) a = ap Err (let s : x ≡ r = cc in s)

-- two accepted files with one answer and the same values in front of their tables are the same bytes
pub same_answer : {caps-before refs-before caps refs caps-before' refs-before' caps' refs' : List ℕ}
    {answer answer' : Result Counts Refusal} (file other : List ℕ)
    → FileRead (trace_in file) caps-before refs-before answer caps refs
    → FileRead (trace_in other) caps-before' refs-before' answer' caps' refs'
    → (counts : Counts) → answer ≡ Ok counts → answer' ≡ Ok counts
    → in_front caps refs counts ≡ in_front caps' refs' counts → Bytes file → Bytes other → file ≡ other
same_answer {caps = caps} {refs = refs} file other p q counts a b same all all' =
    same_bytes file other (in_front caps refs counts) all all' (accepted_says file p counts a)
    (accepted_says other q counts b ∙ ap Ok (sym same))
