-- `session::soundness::places_stand`: all places, one by one.
use Rattle.std.proofs.Common.{rules, ◌∙◌, refl}
use Rattle.std.proofs.lemmas.Iterator.Search.{all_from_yields_List}
use Rattle.std.proofs.lemmas.Iterator.{YieldsList-from_range}
use Rattle.rules.specs.Limits.{capacities}
use Rattle.rules.specs.AllBelow.{all_listed}
use Rattle.session.specs.Tests.{place_stands}
use Rattle.session.proofs.soundness.places_stand.Goals as goal

pub returns : goal.returns
returns c =
    all_from_yields_List (place_stands c.args.used c.args.places.now c.args.counts.now) _ _ c.all.result c.all.ensures.ran
    (YieldsList-from_range 0 capacities capacities refl refl) (λ x b q called. search rules)
    ∙ all_listed (place_stands c.args.used c.args.places.now c.args.counts.now) capacities
