-- What a run over the first references of a trace asks and gives.
use Rattle.std.specs.Prelude.{ℕ, suc, ◌-◌, ◌≤◌, ◌<◌, ◌≡◌, List, reverse, length, take, drop, get_or}
use Rattle.rules.specs.Limits.{capacities, references, pages}
use Rattle.kept.specs.Below.{Below}
use Rattle.kept.specs.Memory.{Running}
use Rattle.run.specs.RankLaws.{LooksAhead}
use Rattle.count.specs.declared.runs.Run.{Run}

-- the references before i, latest first
abbrev pub before : List ℕ → ℕ → List ℕ
before trace i = reverse (take i trace)

-- a trace, a limit and a number of references that no refusal stands against
pub record Fit (trace : List ℕ) (k t : ℕ) : Type 0 where
  pub low : 1 ≤ k
  pub high : k ≤ capacities
  pub short : length trace ≤ references
  pub good : Below pages trace
  pub within : t ≤ length trace

-- the run after t references, with the rest of the trace still to come
pub record Ran (policy : ℕ) (trace : List ℕ) (k t : ℕ) (r : Run) : Type 0 where
  pub counts : List ℕ
  pub running : Running policy k (before trace t) (drop t trace) r.length r.list r.depths counts

-- before the first reference: each reference's next rank was found, if the policy asks for it
pub record Followable (trace : List ℕ) (policy k t : ℕ) (nexts : List ℕ) : Type 0 where
  pub fit : Fit trace k t
  pub looks : (i : ℕ) → i < length trace
      → LooksAhead policy (length trace - i) (get_or nexts i 0) (get_or trace i 0) (drop (suc i) trace)

pub record LookAhead (trace nexts : List ℕ) : Type 0 where
  pub short : length trace ≤ references
  pub good : Below pages trace
  pub room : length nexts ≡ references
