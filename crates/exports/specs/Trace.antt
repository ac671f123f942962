-- What the exported calls on whole traces promise: the promises of crate count, with the answers told in numbers.
use Rattle.std.specs.Prelude.{ℕ, ◌≡◌, List, map, length}
use Rattle.rules.specs.Refusals.{when_accepted}
use Rattle.rules.specs.Told.{Told}
use Rattle.rules.specs.declared.Page.{Page}
use Rattle.kept.specs.Shown.{places_of}
use Rattle.count.specs.Count.{count_answer, count_table, list_answer, list_shown}
use Rattle.exports.specs.Told.{told_with}

pub record CountTold (trace : List ℕ) (policy k : ℕ) (before after : List ℕ) (answer : Told) : Type 0 where
  pub answered : answer ≡ told_with (count_answer policy k (length before) trace) 0
  pub table : after ≡ count_table policy k trace before

-- N1: the number of a page
abbrev pub page_number : Page → ℕ
page_number p = p.0

-- the value is the list's length; a refusal leaves the places as they were (A3)
pub record ListTold (trace : List ℕ) (policy k t : ℕ) (before after : List ℕ) (answer : Told) : Type 0 where
  pub answered : answer ≡ told_with (list_answer policy k trace t) (length (list_shown policy k trace t))
  pub places : after
      ≡ when_accepted (list_answer policy k trace t) (map page_number (places_of (list_shown policy k trace t))) before
