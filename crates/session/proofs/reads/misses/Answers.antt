-- The misses are what the hits leave of the references. The refusal is found.
use Rattle.std.proofs.Common.{arith}
use Rattle.session.proofs.ReadLaws.{misses_from_hits, hits_found}
use Rattle.session.proofs.reads.misses.Goals as goal

pub returns : goal.returns
returns c = misses_from_hits c.in_ok-hits.ensures (omega (arith, hits_found c.in_ok-hits.ensures))
