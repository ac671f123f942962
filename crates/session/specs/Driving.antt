-- For whoever drives a session: what a start answered, and that an accepted one gives a session with no calls.
use Rattle.std.specs.Prelude.{ℕ, ◌≡◌, List, [], Result, Ok, Err}
use Rattle.std.proofs.Common.{sym, ◌∙◌}
use Rattle.rules.specs.Refusals.{accepted}
use Rattle.rules.specs.AnswerLaws.{given, not_given}
use Rattle.rules.specs.declared.refusal.Refusal.{Refusal}
use Rattle.session.specs.declared.Session.{Session}
use Rattle.session.specs.History.{start_answer}
use Rattle.session.specs.Memory.{Gives}
use Rattle.session.specs.Answers.{Starting, fresh}
use Rattle.session.specs.StartLaws.{start_gives}

module _ {policy k : ℕ} {places depths counts places' depths' counts' : List ℕ} {r : Result Session Refusal}
    (p : Starting policy k places depths counts places' depths' counts' r) where
  -- what was answered is what the rules say of the start
  pub begun : {s : Session} → r ≡ Ok s → (start_answer policy k ≡ accepted) × (s ≡ fresh policy k)
  begun e = let g = given (start_answer policy k) (sym p.answer ∙ e) in (g.0, sym g.1)

  pub not_begun : {x : Refusal} → r ≡ Err x → start_answer policy k ≡ Err x
  not_begun e = not_given (start_answer policy k) (fresh policy k) (sym p.answer ∙ e)

  -- an accepted start gives a session with no calls
  pub begun_gives : {s : Session} → r ≡ Ok s → Gives policy k [] s places' depths' counts'
  begun_gives e = rw (begun e).1 (start_gives p (begun e).0)
