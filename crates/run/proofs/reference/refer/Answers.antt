-- One law for LRU, one for the policies that keep ranks.
use Rattle.run.proofs.ReferredLaws.{referred_lru, referred_ranked, not_lru}
use Rattle.run.proofs.reference.refer.Goals as goal

pub returns-in-Lru : goal.returns-in-Lru
returns-in-Lru c = rw c.in-Lru.is (referred_lru c.refer_unranked.ensures)

pub returns-in-Lfu : goal.returns-in-Lfu
returns-in-Lfu c = referred_ranked (not_lru c.in-Lfu.is) c.refer_ranked.ensures
