-- A victim told in numbers (docs/RULES.md, A1, X1): 0 and the frame, or the refusal's number and place.
use Rattle.std.specs.Prelude.{Result, Ok, Err}
use Rattle.rules.specs.Told.{Told, told, told_of}
use Rattle.rules.specs.declared.Frame.{Frame}
use Rattle.rules.specs.declared.refusal.Refusal.{Refusal}

abbrev pub chosen_of : Result Frame Refusal → Told
chosen_of (Ok f) = told 0 f.0
chosen_of (Err r) = told_of (Err r)
