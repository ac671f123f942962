-- What the exported calls of a session promise: in any memory, 40 and the memory as it was where the test fails, and what
-- crate session says of any memory where it passes; and in memory that a start and calls gave, what the rules say.
use Rattle.std.specs.Prelude.{ℕ, suc, cond, ◌≡◌, List, ◌∷◌, map, length, replicate}
use Rattle.rules.specs.Limits.{capacities, pages}
use Rattle.rules.specs.Refusals.{when_accepted, number_of}
use Rattle.rules.specs.Told.{Told, told, tested_told}
use Rattle.kept.specs.Shown.{places_of, shown_places}
use Rattle.session.specs.declared.Session.{Session}
use Rattle.session.specs.History.{start_answer, reference_answer, capacity_answer}
use Rattle.session.specs.History.{accepted_of, depth_of, list_now, hits_now, misses_now}
use Rattle.session.specs.Lent.{Lent, lent_of}
use Rattle.session.specs.Memory.{Given, Value, Places, Depths}
use Rattle.session.specs.AnyMemory.{depth_in, after_reference, hits_in, misses_in}
use Rattle.session.specs.Tests.{fits, countable}
use Rattle.session.specs.Answers.{fresh}
use Rattle.exports.specs.Told.{told_with}
use Rattle.exports.specs.Trace.{page_number}

-- what a start leaves
abbrev pub start_lent : ℕ → ℕ → Lent
start_lent policy k = lent_of (fresh policy k) (replicate capacities 0) (replicate (suc capacities) 0) (replicate pages 0)

pub record StartTold (policy k : ℕ) (before after : Lent) (number : ℕ) : Type 0 where
  pub answered : number ≡ number_of (start_answer policy k)
  pub memory : after ≡ when_accepted (start_answer policy k) (start_lent policy k) before

pub record ReferTold (before : Lent) (page : ℕ) (after : Lent) (answer : Told) : Type 0 where
  pub answered : answer
      ≡ tested_told (fits before.value)
      (told_with (reference_answer before.value.references page) (depth_in before page))
  pub memory : after ≡ cond (fits before.value) (after_reference before page) before
  pub depth_is : (policy k : ℕ) (calls : List ℕ) → Given policy k calls before
      → answer ≡ told_with (reference_answer (length (accepted_of calls)) page) (depth_of policy k calls page)
  pub next : (policy k : ℕ) (calls : List ℕ) → Given policy k calls before → Given policy k (page ∷ calls) after

pub record ListShown (s : Session) (places before after : List ℕ) (answer : Told) : Type 0 where
  pub answered : answer ≡ tested_told (fits s) (told 0 s.length)
  pub memory : after ≡ cond (fits s) (map page_number (shown_places s.length places)) before
  pub length_is : (policy k : ℕ) (calls : List ℕ) → Value policy k calls s → Places policy k calls places
      → answer ≡ told 0 (length (list_now policy k calls))
  pub shown_is : (policy k : ℕ) (calls : List ℕ) → Value policy k calls s → Places policy k calls places
      → after ≡ map page_number (places_of (list_now policy k calls))

pub record ReferencesTold (s : Session) (answer : Told) : Type 0 where
  pub answered : answer ≡ tested_told (fits s) (told 0 s.references)
  pub references_are : (policy k : ℕ) (calls : List ℕ) → Value policy k calls s → answer ≡ told 0 (length (accepted_of calls))

pub record HitsTold (s : Session) (depths : List ℕ) (c : ℕ) (answer : Told) : Type 0 where
  pub answered : answer ≡ tested_told (countable s depths) (told_with (capacity_answer s.k c) (hits_in depths c))
  pub hits_are : (policy k : ℕ) (calls : List ℕ) → Value policy k calls s → Depths policy k calls depths
      → answer ≡ told_with (capacity_answer k c) (hits_now policy c calls)

pub record MissesTold (s : Session) (depths : List ℕ) (c : ℕ) (answer : Told) : Type 0 where
  pub answered : answer ≡ tested_told (countable s depths) (told_with (capacity_answer s.k c) (misses_in s depths c))
  pub misses_are : (policy k : ℕ) (calls : List ℕ) → Value policy k calls s → Depths policy k calls depths
      → answer ≡ told_with (capacity_answer k c) (misses_now policy c calls)
