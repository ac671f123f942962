-- 40 where the test failed: no history gives such a session.
use Rattle.std.proofs.Common.{sym, ◌∙◌}
use Rattle.exports.proofs.SessionLaws.{misses_unsound}
use Rattle.exports.proofs.session_reads.musselrung_session_misses_parts.Goals as goal

pub returns-then-not-countable : goal.returns-then-not-countable
returns-then-not-countable c = misses_unsound (sym c.countable.ensures ∙ c.if-not-countable.true) c.tell.ensures
