-- An answer told in numbers that has a number to give: 0 and that number, or the refusal's number and place (rule A1).
use Rattle.std.specs.Prelude.{ℕ}
use Rattle.rules.specs.Refusals.{Answer, giving}
use Rattle.rules.specs.Told.{Told, told_of}

abbrev pub told_with : Answer → ℕ → Told
told_with answer n = told_of (giving answer n)
