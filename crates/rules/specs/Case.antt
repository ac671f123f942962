-- A marked case: what the definitions give, beside what the rules say it is. Cases of all crates stand in one table (crate
-- `marked`); numbers, tables and lists are shown as lists of numbers.
use Rattle.std.specs.Prelude.{ℕ, List}

pub record Case : Type 0 where
  pub got : List (List ℕ)
  pub wanted : List (List ℕ)

abbrev pub gotten : Case → List (List ℕ)
gotten c = c.got

abbrev pub wished : Case → List (List ℕ)
wished c = c.wanted
