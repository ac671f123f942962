-- A count's promise, answer by answer: what the code has checked at each return, and what that makes of the promise.
use Rattle.std.specs.Prelude.{ℕ, ◌≤◌, ◌<◌, ◌≡◌, List, [], ◌++◌, reverse, length, drop, Err}
use Rattle.std.proofs.Common.{arith, ◌∙◌, lt-ltb, le-ltb}
use Rattle.std.proofs.Math.Path.{sym, ap}
use Rattle.std.proofs.Math.Seq.{take-length, drop-length}
use Rattle.rules.specs.Refusals.{Answer, accepted, first_bad_page}
use Rattle.rules.specs.declared.refusal.Refusal.{Refusal}
use Rattle.rules.specs.declared.refusal.Refusal.TheVariants.{ShortTable}
use Rattle.theory.specs.Policy.{policy_of}
use Rattle.theory.specs.Plain.{hits_up_to}
use Rattle.kept.specs.Tally.{tally}
use Rattle.kept.specs.Filled.{filled}
use Rattle.kept.specs.Memory.{depths_after}
use Rattle.count.specs.declared.runs.Run.{Run}
use Rattle.count.specs.Count.{count_answer, count_table, within_limits, Counted}
use Rattle.count.specs.Checks.{limits_answer}
use Rattle.count.proofs.CheckLaws.{limits_refused, limits_passed, limits_within, pages_refused, all_pages}
use Rattle.count.specs.Runs.{Fit, Ran}
use Rattle.count.specs.Table.{filled_hits}

-- a refusal leaves the table as it is
refused : {trace table : List ℕ} {policy k : ℕ} {r : Refusal} → count_answer policy k (length table) trace ≡ Err r
    → Counted trace policy k table table (Err r)
unfolding count_table
refused e = record { answer = sym e; table = rw e }

module _ (trace : List ℕ) (policy k : ℕ) (table : List ℕ) where
  pub count_limits : {r : Refusal} → limits_answer policy k (length trace) ≡ Err r → Counted trace policy k table table (Err r)
  unfolding count_answer
  count_limits e = refused (limits_refused policy k (length trace) _ e)

  module _ (passed : limits_answer policy k (length trace) ≡ accepted) where
    through : (rest : Answer) → within_limits policy k (length trace) rest ≡ rest
    through rest = limits_passed policy k (length trace) rest passed

    pub count_short : length table < k → Counted trace policy k table table (Err ShortTable)
    unfolding count_answer
    count_short h = refused (through _ ∙ rw (lt-ltb (length table) k h))

    module _ (room : k ≤ length table) where
      pub count_bad : {r : Refusal} → first_bad_page 0 trace accepted ≡ Err r → Counted trace policy k table table (Err r)
      unfolding count_answer
      count_bad e = refused (through _ ∙ rw (le-ltb (length table) k room) (pages_refused 0 trace accepted e))

      module _ (good : first_bad_page 0 trace accepted ≡ accepted) where
        pub count_fit : Fit trace k (length trace)
        count_fit =
            let w = limits_within policy k (length trace) passed in
            record { low = w.low; high = w.high; short = w.few; good = all_pages 0 trace good; within = omega arith }

        -- the hits of the plain caches in front, and behind them what stood there
        pub count_filled : {after : List ℕ} → after ≡ hits_up_to policy k trace ++ drop k table
            → Counted trace policy k table after accepted
        unfolding count_answer count_table
        count_filled e =
            let yes : count_answer policy k (length table) trace ≡ accepted =
            through _ ∙ rw (le-ltb (length table) k room, good) in
            record { answer = sym yes; table = rw yes e }

        module _ {run : Run} (ran : Ran policy trace k (length trace) run) where
          depths_at : run.depths ≡ tally (policy_of policy) k (reverse trace) []
          depths_at = ran.running.depths_are ∙ (unfold depths_after in rw (take-length trace, drop-length trace))

          pub count_done : {after : List ℕ} → after ≡ filled run.depths k table → Counted trace policy k table after accepted
          count_done e =
              count_filled (e ∙ ap (λ (d : List ℕ). filled d k table) depths_at
              ∙ filled_hits policy k count_fit.low count_fit.high trace table count_fit.short room)
