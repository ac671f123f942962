-- The library's sum fits, as no count is above 16 bits; and it is that of all places of the table.
use Rattle.std.proofs.Common.{rules, ◌≡◌, ◌∙◌, sym, sum}
use Rattle.std.proofs.iter.runs.Sources.{sums}
use Rattle.std.proofs.iter.runs.Made.{chains}
use Rattle.session.specs.TotalLaws.{total_all}
use Rattle.session.proofs.soundness.all_counts.Goals as goal

pub sum-requires-clause-fits : goal.sum-requires-clause-fits
sum-requires-clause-fits c = search (rules, sums)

pub returns : goal.returns
returns c =
    let whole : c.sum.result ≡ sum c.args.counts.now = search (rules, chains) in
    whole ∙ sym (total_all c.args.counts.now _ c.told-counts)
