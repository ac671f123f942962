-- 40 where the test failed: no history gives such a session.
use Rattle.std.proofs.Common.{sym, ◌∙◌}
use Rattle.exports.proofs.SessionLaws.{list_unsound}
use Rattle.exports.proofs.session_reads.musselrung_session_list_parts.Goals as goal

pub returns-then-not-fits : goal.returns-then-not-fits
returns-then-not-fits c = list_unsound (sym c.fits.ensures ∙ c.if-not-fits.true) c.tell.ensures
