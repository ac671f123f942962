-- `text::write_decimal`: the number to be written falls to its tenth at each call.
use Rattle.report_text.proofs.text.+write_decimal.Given as goal

abbrev pub decreases-write_decimal : goal.decreases-write_decimal
decreases-write_decimal l = l.n
