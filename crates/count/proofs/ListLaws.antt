-- The list's promise, answer by answer.
use Rattle.std.specs.Prelude.{ℕ, ◌≤◌, ◌<◌, ◌≡◌, List, length, drop, Ok, Err}
use Rattle.std.proofs.Common.{◌∙◌, lt-ltb, le-ltb}
use Rattle.rules.specs.Limits.{pages}
use Rattle.rules.specs.Refusals.{Answer, accepted, first_bad_page}
use Rattle.rules.specs.declared.Page.{Page}
use Rattle.rules.specs.declared.refusal.Refusal.{Refusal}
use Rattle.rules.specs.declared.refusal.Refusal.TheVariants.{PastTheTrace}
use Rattle.theory.specs.OnePass.{list_of}
use Rattle.kept.specs.Memory.{length_after}
use Rattle.kept.specs.Shown.{shown_places, places_of}
use Rattle.run.specs.RunLaws.{run_shown}
use Rattle.count.specs.declared.runs.Run.{Run}
use Rattle.count.specs.Count.{list_answer, list_shown, within_limits}
use Rattle.count.specs.Checks.{limits_answer}
use Rattle.count.proofs.CheckLaws.{limits_refused, limits_passed, limits_within, pages_refused, pages_passed, all_pages}
use Rattle.count.specs.Listing.{Showing}
use Rattle.count.specs.Runs.{before, Fit, Ran}
use Rattle.count.specs.RunLaws.{before_below}

-- a refusal shows no list
refused : {trace : List ℕ} {policy k t : ℕ} {r : Refusal} → list_answer policy k trace t ≡ Err r
    → Showing trace policy k t (Err r)
refused e = record { shown = rw e }

module _ (trace : List ℕ) (policy k t : ℕ) where
  pub list_limits : {r : Refusal} → limits_answer policy k (length trace) ≡ Err r → Showing trace policy k t (Err r)
  unfolding list_answer
  list_limits e = refused (limits_refused policy k (length trace) _ e)

  module _ (passed : limits_answer policy k (length trace) ≡ accepted) where
    through : (rest : Answer) → within_limits policy k (length trace) rest ≡ rest
    through rest = limits_passed policy k (length trace) rest passed

    pub list_bad : {r : Refusal} → first_bad_page 0 trace accepted ≡ Err r → Showing trace policy k t (Err r)
    unfolding list_answer
    list_bad e = refused (through _ ∙ pages_refused 0 trace _ e)

    module _ (good : first_bad_page 0 trace accepted ≡ accepted) where
      pub list_past : length trace < t → Showing trace policy k t (Err PastTheTrace)
      unfolding list_answer
      list_past h = refused (through _ ∙ pages_passed 0 trace _ good ∙ rw (lt-ltb (length trace) t h))

      module _ (inside : t ≤ length trace) where
        pub list_fit : Fit trace k t
        list_fit =
            let w = limits_within policy k (length trace) passed in
            record { low = w.low; high = w.high; short = w.few; good = all_pages 0 trace good; within = inside }

        pub list_done : {run : Run} {places : List Page} → Ran policy trace k t run
            → places ≡ shown_places run.length run.list
            → Showing trace policy k t (Ok (record { length = run.length; places = places }))
        unfolding list_answer list_shown list_of length_after
        list_done {run} {places} ran p =
            let yes : list_answer policy k trace t ≡ accepted =
            through _ ∙ pages_passed 0 trace _ good ∙ rw (le-ltb (length trace) t inside) in
            let places_are : places ≡ places_of (list_of policy k trace t) =
            run_shown policy k (before trace t) (drop t trace) list_fit.high
            (before_below pages trace t list_fit.good) ran.running.length_is ran.running.places_are p in
            record { shown = rw yes (rw (ran.running.length_is, places_are)) }
