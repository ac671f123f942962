-- `write_report`: what came says what the whole input says, so the part of the buffer that is written is its report.
use Rattle.std.specs.Prelude.{◌≡◌, ℕ, List, None, Some, IfSome, OnOk, Ok, Err, length, take}
use Rattle.std.specs.Io.KnownBytes.{Appends}
use Rattle.std.specs.declared.option.Option.{Option}
use Rattle.std.specs.declared.result.Result.{Result}
use Rattle.std.proofs.Common.{ap, sym, ◌∙◌, take_at}
use Rattle.report_theory.specs.Report.{report}
use Rattle.report_theory.specs.Input.{InputPrinted}
use Rattle.report.proofs.write_report.Goals as goal

-- the part of the buffer that is counted is the report of the whole input
the_report : (known : Option (List ℕ)) (buffer before after : List ℕ) (n count : ℕ)
    → IfSome known (λ input. take n buffer ≡ take (length buffer) input) → InputPrinted buffer n before count after
    → IfSome known (λ input. take count after ≡ report input)
the_report None buffer before after n count e p = tt
the_report (Some input) buffer before after n count e p =
    let printed = p.whole input (e ∙ ap (λ k. take k input) p.room) in
    rw printed.buffer (take_at (report input) _ count (sym printed.counted))

written : {A E : Type 0} (result : Result A E) (known old new : Option (List ℕ)) (part : List ℕ)
    → OnOk result (Appends old new part) → IfSome known (λ input. part ≡ report input)
    → OnOk result (IfSome known (λ input. Appends old new (report input)))
written (Err x) known old new part a e = tt
written (Ok x) None old new part a e = tt
written (Ok x) (Some input) old new part a e = rw e at a

pub returns : goal.returns
returns g c =
    written c.write_all.result _ _ _ _ c.write_all.ensures.bytes
    (the_report _ c.fill.new.buffer _ c.report_input-m.new.out c.in_ok-n.n c.report_input-m.result c.in_ok-n.ensures
    c.report_input-m.ensures)
