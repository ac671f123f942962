-- A start's promise, answer by answer; and what an accepted start gives is a session with no history.
use Rattle.std.specs.Prelude.{ℕ, suc, ◌≡◌, refl, List, [], replicate, Result, Ok, Err}
use Rattle.std.proofs.Common.{◌∙◌}
use Rattle.rules.specs.Limits.{capacities, pages}
use Rattle.rules.specs.Refusals.{accepted}
use Rattle.rules.specs.declared.refusal.Refusal.{Refusal}
use Rattle.theory.specs.OnePass.{list_after}
use Rattle.kept.specs.Memory.{length_after}
use Rattle.run.specs.RunLaws.{run_start}
use Rattle.session.specs.declared.Session.{Session}
use Rattle.session.specs.History.{start_answer, accepted_of}
use Rattle.session.specs.Memory.{Gives}
use Rattle.session.specs.Answers.{Starting, fresh}

pub start_refused : {policy k : ℕ} {x : Refusal} {places depths counts : List ℕ} → start_answer policy k ≡ Err x
    → Starting policy k places depths counts places depths counts (Err x)
start_refused e = record { answer = rw e; places_are = rw e; depths_are = rw e; counts_are = rw e }

pub start_begun : {policy k : ℕ} {places depths counts : List ℕ} → start_answer policy k ≡ accepted
    → Starting policy k places depths counts (replicate capacities 0) (replicate (suc capacities) 0) (replicate pages 0)
    (Ok (fresh policy k))
start_begun e = record { answer = rw e; places_are = rw e; depths_are = rw e; counts_are = rw e }

-- an accepted start gives a session: the one with no calls
pub start_gives : {policy k : ℕ} {places depths counts places' depths' counts' : List ℕ} {r : Result Session Refusal}
    → Starting policy k places depths counts places' depths' counts' r → start_answer policy k ≡ accepted
    → Gives policy k [] (fresh policy k) places' depths' counts'
unfolding accepted_of length_after list_after
start_gives {policy} {k} p e =
    let run = run_start policy k [] (p.counts_are ∙ rw e) in
    record {
      value = record { started = e; policy_is = refl; k_is = refl; length_is = refl; references_are = refl };
      list = record { places_are = p.places_are ∙ rw e run.places_are };
      tallied = record { depths_are = p.depths_are ∙ rw e run.depths_are };
      counted = record { counts_are = run.counts_are };
    }
