-- The law that takes a session over an accepted reference: what its memory becomes is the session's with one call more.
use Rattle.std.specs.Prelude.{ℕ, ◌<◌, ◌≡◌, List, [], ◌∷◌, length}
use Rattle.std.proofs.Common.{arith, ◌∙◌, ap}
use Rattle.rules.specs.Limits.{references, pages}
use Rattle.theory.specs.Policy.{policy_of}
use Rattle.theory.specs.OnePass.{depth}
use Rattle.kept.specs.PastOnly.{policy_past_only, list_past_only}
use Rattle.kept.specs.Memory.{length_after}
use Rattle.kept.specs.MemoryLaws.{running_past_only}
use Rattle.run.specs.ReferredAll.{depth_then, memory_then}
use Rattle.run.specs.RankLaws.{LooksAhead}
use Rattle.run.specs.RunLaws.{Runs, then_depth, then_runs}
use Rattle.session.specs.History.{accepted_of, depth_of}
use Rattle.session.specs.Lent.{Lent}
use Rattle.session.specs.Memory.{Given}
use Rattle.session.specs.AnyMemory.{as_run, lent_as}
use Rattle.session.specs.ReferLaws.{Bounds, start_bounds, accepted_below, accepted_next}

module _ {policy k : ℕ} {calls : List ℕ} {m : Lent} (g : Given policy k calls m) where
  -- what a session holds is a run
  running : Runs policy k (accepted_of calls) [] (as_run m)
  unfolding length_after
  running =
      record {
        length_is = g.value.length_is;
        places_are = g.list.places_are;
        depths_are = g.tallied.depths_are;
        counts_are = g.counted.counts_are;
      }

  module _ (page : ℕ) (few : length (accepted_of calls) < references) (fine : page < pages) where
    abbrev past : List ℕ
    past = accepted_of calls

    bounds : Bounds policy k
    bounds = start_bounds policy k g.value.started

    -- a session looks back only, so it may as well know the page that comes
    told : Runs policy k past (page ∷ []) (as_run m)
    told = running_past_only policy bounds.session past [] (page ∷ []) running

    looks : LooksAhead policy 0 0 page []
    looks not-lru not-lfu = absurd (not-lfu (omega (arith, not-lru, bounds.session)))

    pub accepted_depth : depth_then policy page 0 (as_run m) ≡ depth_of policy k calls page
    accepted_depth =
        then_depth bounds.low bounds.high fine (accepted_below calls) few looks {m = as_run m} told
        ∙ ap (depth page) (list_past_only (policy_of policy) (policy_past_only policy bounds.session) k past (page ∷ []) [])

    runs : Runs policy k (page ∷ past) [] (memory_then policy k page 0 0 (as_run m))
    runs = then_runs bounds.low bounds.high fine (accepted_below calls) few looks {m = as_run m} told

    pub accepted_given : Given policy k (page ∷ calls) (lent_as m.value (memory_then policy k page 0 0 (as_run m)))
    unfolding length_after
    accepted_given =
        let now : accepted_of (page ∷ calls) ≡ page ∷ past = accepted_next calls page few fine in
        record {
          value =
              record {
                started = g.value.started;
                policy_is = g.value.policy_is;
                k_is = g.value.k_is;
                length_is = rw now runs.length_is;
                references_are = rw now (omega (arith, g.value.references_are));
              };
          list = record { places_are = rw now runs.places_are };
          tallied = record { depths_are = rw now runs.depths_are };
          counted = record { counts_are = rw now runs.counts_are };
        }
