-- The report as a definition of the file's bytes (docs/RULES.md, T1 and T2): the hits are those of the plain caches (D2).
use Rattle.std.specs.Prelude.{ℕ, List, [], ◌∷◌, ◌++◌, length, Result, Ok, Err}
use Rattle.rules.specs.Limits.{lru, lfu, opt}
use Rattle.rules.specs.Refusals.{refusal_number}
use Rattle.rules.specs.declared.refusal.Refusal.{Refusal}
use Rattle.theory.specs.Plain.{hits_at}
use Rattle.file_theory.specs.Decoding.{Trace, trace_in}
use Rattle.report_theory.specs.Text.{text, decimal}

-- T1: a capacity and its hits under the three policies
unfoldable pub line : ℕ → ℕ → ℕ → ℕ → List ℕ
line capacity a b c = decimal capacity ++ text " " ++ decimal a ++ text " " ++ decimal b ++ text " " ++ decimal c ++ text "\n"

-- T1: the first line and the last
abbrev pub heading : List ℕ
heading = text "capacity lru lfu opt\n"

unfoldable pub ending : ℕ → List ℕ
ending n = text "references " ++ decimal n ++ text "\n"

-- T2
unfoldable pub refused_line : ℕ → List ℕ
refused_line number = text "refused " ++ decimal number ++ text "\n"

-- T1: a line for each capacity
unfoldable pub lines : List ℕ → List ℕ → List ℕ
lines refs [] = []
lines refs (c ∷ cs) = line c (hits_at lru c refs) (hits_at lfu c refs) (hits_at opt c refs) ++ lines refs cs

abbrev pub report_for : Result Trace Refusal → List ℕ
report_for (Ok t) = heading ++ lines t.refs t.caps ++ ending (length t.refs)
report_for (Err r) = refused_line (refusal_number r)

-- T1 and T2: what is printed for a file
unfoldable pub report : List ℕ → List ℕ
report file = report_for (trace_in file)
