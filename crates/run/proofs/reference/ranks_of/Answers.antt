-- LFU looks the count up, and keeps one more; OPT has looked ahead.
use Rattle.run.proofs.ReferredLaws.{ranking_counted, ranking_told, not_lfu}
use Rattle.run.proofs.reference.ranks_of.Goals as goal

pub returns-in-Lfu : goal.returns-in-Lfu
returns-in-Lfu c =
    rw c.in-Lfu.is (ranking_counted c.count_of-count.ensures c.saturating_add-one_more.ensures c.keep_count.ensures)

pub returns-in-Lru : goal.returns-in-Lru
returns-in-Lru c = ranking_told (not_lfu c.in-Lru.is)
