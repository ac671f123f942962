-- The list of a trace (rules M8, A6, O2): what the call shows; a refusal shows no list.
use Rattle.std.specs.Prelude.{ℕ, ◌≡◌, List, length, Result}
use Rattle.rules.specs.Refusals.{giving}
use Rattle.rules.specs.declared.refusal.Refusal.{Refusal}
use Rattle.kept.specs.Shown.{places_of}
use Rattle.kept.specs.declared.shown.Listing.{Listing}
use Rattle.count.specs.Count.{list_answer, list_shown}

-- a list with its length
abbrev pub listing_of : List ℕ → Listing
listing_of l = record { length = length l; places = places_of l }

pub record Showing (trace : List ℕ) (policy k t : ℕ) (r : Result Listing Refusal) : Type 0 where
  pub shown : r ≡ giving (list_answer policy k trace t) (listing_of (list_shown policy k trace t))
