-- What a session's reads answer (rules S2, A5, A6, R7): in any memory, and in memory that a start and calls gave.
use Rattle.std.specs.Prelude.{ℕ, ◌≡◌, List, length, Result}
use Rattle.rules.specs.Refusals.{giving}
use Rattle.rules.specs.declared.refusal.Refusal.{Refusal}
use Rattle.kept.specs.Shown.{places_of}
use Rattle.kept.specs.declared.shown.Listing.{Listing}
use Rattle.session.specs.declared.Session.{Session}
use Rattle.session.specs.History.{accepted_of, list_now, hits_now, misses_now, capacity_answer}
use Rattle.session.specs.Memory.{Value, Places, Depths}
use Rattle.session.specs.AnyMemory.{listing_in, hits_in, misses_in}

pub record ListRead (s : Session) (places : List ℕ) (r : Listing) : Type 0 where
  pub answered : r ≡ listing_in s places
  pub length_is : (policy k : ℕ) (calls : List ℕ) → Value policy k calls s → Places policy k calls places
      → r.length ≡ length (list_now policy k calls)
  pub places_are : (policy k : ℕ) (calls : List ℕ) → Value policy k calls s → Places policy k calls places
      → r.places ≡ places_of (list_now policy k calls)

pub record ReferencesRead (s : Session) (r : ℕ) : Type 0 where
  pub answered : r ≡ s.references
  pub references_are : (policy k : ℕ) (calls : List ℕ) → Value policy k calls s → r ≡ length (accepted_of calls)

pub record HitsRead (s : Session) (depths : List ℕ) (c : ℕ) (r : Result ℕ Refusal) : Type 0 where
  pub answered : r ≡ giving (capacity_answer s.k c) (hits_in depths c)
  pub hits_are : (policy k : ℕ) (calls : List ℕ) → Value policy k calls s → Depths policy k calls depths
      → r ≡ giving (capacity_answer k c) (hits_now policy c calls)

pub record MissesRead (s : Session) (depths : List ℕ) (c : ℕ) (r : Result ℕ Refusal) : Type 0 where
  pub answered : r ≡ giving (capacity_answer s.k c) (misses_in s depths c)
  pub misses_are : (policy k : ℕ) (calls : List ℕ) → Value policy k calls s → Depths policy k calls depths
      → r ≡ giving (capacity_answer k c) (misses_now policy c calls)
