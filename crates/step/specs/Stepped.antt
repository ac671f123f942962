-- What a list step promises, for any memory: the places in use after it, everything behind them, and the depth.
use Rattle.std.specs.Prelude.{ℕ, suc, ◌+◌, ◌<◌, min, max, Bool, false, cond, ◌&&◌, ◌≡◌, List, ◌++◌, ltb, length, take, drop}
use Rattle.std.specs.Prelude.{get_or, set}
use Rattle.std.specs.declared.ops.ControlFlow.{ControlFlow}
use Rattle.std.specs.declared.ops.ControlFlow.TheVariants.{Break, Continue}
use Rattle.theory.specs.Priority.{Priority, higher, lower}
use Rattle.theory.specs.OnePass.{carry, depth}
use Rattle.kept.specs.Entries.{place_entry, larger}
use Rattle.step.specs.declared.Step.{Step}

-- The places in use after a reference to the page whose entry is `old` and is `new` from now on: of the first n places of the
-- memory, grown by what is left over if the limit k and the memory have room for it. The larger of two numbers is taken since
-- this speaks of any memory: one with more places in use than k allows keeps them all.
unfoldable pub next : Priority → ℕ → ℕ → ℕ → ℕ → List ℕ → List ℕ
next above k old new n memory =
    take (max (length (take n memory)) (min k (length memory))) (place_entry above old new (take n memory))

pub record Stepped (above : Priority) (k old new n : ℕ) (before after : List ℕ) (r : Step) : Type 0 where
  pub places : after ≡ next above k old new n before ++ drop (length (next above k old new n before)) before
  pub depth_is : r.depth ≡ depth old (take n before)
  pub length_is : r.length ≡ length (next above k old new n before)

-- one place of a walk: the old entry is there and the carried one takes its place, or the larger stays and the smaller is
-- carried on
abbrev pub AtPlace : ℕ → ℕ → ℕ → List ℕ → List ℕ → ControlFlow ℕ ℕ → Type 0
AtPlace old carried i before after (Break d) = (get_or before i 0 ≡ old) × (after ≡ set before i carried) × (d ≡ i + 1)
AtPlace old carried i before after (Continue c) = (get_or before i 0 ≡ old → ⊥)
    × (after ≡ set before i (higher larger carried (get_or before i 0))) × (c ≡ lower larger carried (get_or before i 0))

-- how carrying ends, where the old entry had this depth and n places were there for these entries: at that depth, or with
-- what does not fit them
abbrev pub Ends : ℕ → List ℕ → ℕ → ControlFlow ℕ ℕ → Type 0
Ends depth entries n (Break d) = (0 < d) × (d ≡ depth)
Ends depth entries n (Continue last) = (depth ≡ 0) × (last ≡ get_or entries n 0)

-- `first` carried down a list: as many places as there were, and what does not fit them
pub record Carrying (above : Priority) (old first : ℕ) (before after : List ℕ) (r : ControlFlow ℕ ℕ) : Type 0 where
  pub places : after ≡ take (length before) (carry above old first before)
  pub ends : Ends (depth old before) (carry above old first before) (length before) r

-- a reference to a list: as many places as there were, and what does not fit them
pub record Placed (above : Priority) (old new : ℕ) (before after : List ℕ) (r : ControlFlow ℕ ℕ) : Type 0 where
  pub places : after ≡ take (length before) (place_entry above old new before)
  pub ends : Ends (depth old before) (place_entry above old new before) (length before) r

-- what is left over is put behind the `used` places, if there is room
abbrev pub grows : ℕ → ℕ → ControlFlow ℕ ℕ → List ℕ → Bool
grows used k (Break d) memory = false
grows used k (Continue last) memory = ltb used k && ltb used (length memory)

abbrev pub left_over : ControlFlow ℕ ℕ → ℕ
left_over (Break d) = 0
left_over (Continue last) = last

abbrev pub depth_of : ControlFlow ℕ ℕ → ℕ
depth_of (Break d) = d
depth_of (Continue last) = 0

pub record Settled (used k : ℕ) (c : ControlFlow ℕ ℕ) (before after : List ℕ) (r : Step) : Type 0 where
  pub places : after ≡ cond (grows used k c before) (set before used (left_over c)) before
  pub depth_is : r.depth ≡ depth_of c
  pub length_is : r.length ≡ cond (grows used k c before) (suc used) used
