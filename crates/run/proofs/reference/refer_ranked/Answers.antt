-- The rank is looked up and kept, the page is placed by it, and its depth is counted.
use Rattle.run.proofs.ReferredLaws.{ranked}
use Rattle.run.proofs.reference.refer_ranked.Goals as goal

pub returns : goal.returns
returns c =
    ranked c.ranks_of-ranks.ensures c.entry-old.ensures c.entry-new.ensures c.place-s.ensures c.count_depth.ensures
