-- A law for each return.
use Rattle.std.proofs.Common.{arith}
use Rattle.session.proofs.ReferAnswers.{refer_full, refer_bad, refer_done}
use Rattle.session.proofs.refer.Goals as goal

pub returns-then-s-ge-REFERENCES : goal.returns-then-s-ge-REFERENCES
returns-then-s-ge-REFERENCES c = refer_full c.if-s-ge-REFERENCES.true

pub returns-then-page-ge-PAGES : goal.returns-then-page-ge-PAGES
returns-then-page-ge-PAGES c = refer_bad c.if-s-ge-REFERENCES.false c.if-page-ge-PAGES.true

pub returns : goal.returns
returns c = refer_done (omega arith) (omega arith) c.refer_all-depth.ensures
