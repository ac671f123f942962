-- The list that crate count shows, its answer looked at by its cases, gives what the exported call promises.
use Rattle.std.specs.Prelude.{ℕ, ◌≡◌, List, map, Result, Ok, Err}
use Rattle.std.proofs.Common.{sym, ◌∙◌}
use Rattle.rules.specs.AnswerLaws.{given, not_given}
use Rattle.rules.specs.Told.{Told, told, told_of}
use Rattle.rules.specs.declared.refusal.Refusal.{Refusal}
use Rattle.kept.specs.declared.shown.Listing.{Listing}
use Rattle.count.specs.Count.{list_answer, list_shown}
use Rattle.count.specs.Listing.{listing_of, Showing}
use Rattle.exports.specs.Trace.{page_number, ListTold}

module _ {trace : List ℕ} {policy k t : ℕ} {listed : Result Listing Refusal} (showing : Showing trace policy k t listed)
    (before : List ℕ) where
  pub list_refused : {answer : Told} (r : Refusal) → listed ≡ Err r → answer ≡ told_of (Err r)
      → ListTold trace policy k t before before answer
  list_refused r e n =
      let said = not_given (list_answer policy k trace t) (listing_of (list_shown policy k trace t)) (sym showing.shown ∙ e) in
      record { answered = rw said n; places = rw said }

  pub list_told : {after : List ℕ} (listing : Listing) → listed ≡ Ok listing → after ≡ map page_number listing.places
      → ListTold trace policy k t before after (told 0 listing.length)
  list_told listing e shown =
      let said = given (list_answer policy k trace t) (sym showing.shown ∙ e) in
      record { answered = rw (said.0, ← said.1); places = rw said.0 (shown ∙ rw (← said.1)) }
