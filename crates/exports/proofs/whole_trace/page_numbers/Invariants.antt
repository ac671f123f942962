-- The numbers of the first pages, and 0 behind them.
use Rattle.std.proofs.Common.{◌≡◌, ◌-◌, ◌≤◌}
use Rattle.rules.specs.Limits.{capacities}
use Rattle.exports.proofs.Pages.{numbers_of}
use Rattle.exports.proofs.whole_trace.page_numbers.Given as goal

abbrev pub invariant-loop-i : goal.invariant-loop-i
invariant-loop-i l = (l.numbers ≡ numbers_of l.shown l.i) × (l.i ≤ capacities)

abbrev pub decreases-loop-i : goal.decreases-loop-i
decreases-loop-i l = capacities - l.i
