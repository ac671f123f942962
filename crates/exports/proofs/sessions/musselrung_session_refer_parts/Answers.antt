-- 40 where the test failed; else what `session::refer` promises, its answer told in numbers.
use Rattle.std.proofs.Common.{rules, sym, ◌∙◌}
use Rattle.exports.specs.Narrow.{page_narrowed}
use Rattle.exports.proofs.SessionLaws.{refer_unsound, referred}
use Rattle.exports.proofs.sessions.musselrung_session_refer_parts.Goals as goal

pub returns-then-not-fits : goal.returns-then-not-fits
returns-then-not-fits c = refer_unsound (sym c.fits.ensures ∙ c.if-not-fits.true) c.tell.ensures

pub returns : goal.returns
returns c =
    referred (sym c.fits.ensures ∙ c.if-not-fits.false) (page_narrowed c.short_of.ensures c.refer-depth.ensures)
    (search rules)
