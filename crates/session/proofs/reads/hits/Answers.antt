-- The capacity stands, so the number counts. The refusal is found.
use Rattle.session.proofs.ReadLaws.{hits_read, within_answered}
use Rattle.session.proofs.reads.hits.Goals as goal

pub returns : goal.returns
returns c = hits_read (within_answered _ _ _ _ c.if-c-lt1.false c.if-s-c.false c.sum.ensures)
