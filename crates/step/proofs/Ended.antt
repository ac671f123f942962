-- How carrying ended, as two numbers: the depth of the old entry, and what is left over, which is 0 where nothing is.
use Rattle.std.proofs.Common.{ℕ, arith, ◌≡◌, sym, List, length, get_or, ControlFlow, Break, Continue}
use Rattle.std.proofs.Math.ListN.{get_or-eq_default}
use Rattle.theory.specs.Priority.{Priority}
use Rattle.theory.specs.OnePass.{carry, depth}
use Rattle.kept.specs.Entries.{place_entry}
use Rattle.step.specs.EntryLengths.{carry_length, place_entry_length}
use Rattle.step.specs.Stepped.{Ends, Carrying, Placed, depth_of, left_over}

pub record Ended (depth : ℕ) (entries : List ℕ) (n : ℕ) (r : ControlFlow ℕ ℕ) : Type 0 where
  pub depth_is : depth_of r ≡ depth
  pub last_is : left_over r ≡ get_or entries n 0

-- where the old entry was found there are as many entries as places
ended : {d n : ℕ} {entries : List ℕ} (r : ControlFlow ℕ ℕ) → ((d ≡ 0 → ⊥) → length entries ≡ n) → Ends d entries n r
    → Ended d entries n r
ended {d} {n} {entries} (Break e) full p =
    let long : length entries ≡ n = full (λ q. omega (arith, q, p.0, p.1)) in
    record { depth_is = p.1; last_is = sym (get_or-eq_default entries 0 {n = n} (omega (arith, long))) }
ended (Continue last) full p = record { depth_is = sym p.0; last_is = p.1 }

module _ {above : Priority} {old : ℕ} {before after : List ℕ} {r : ControlFlow ℕ ℕ} where
  pub carrying_ended : {first : ℕ} → Carrying above old first before after r
      → Ended (depth old before) (carry above old first before) (length before) r
  carrying_ended {first} p = ended r (carry_length above 0 old first before) p.ends

  pub placed_ended : {new : ℕ} → Placed above old new before after r
      → Ended (depth old before) (place_entry above old new before) (length before) r
  placed_ended {new} p = ended r (place_entry_length above old new before) p.ends
