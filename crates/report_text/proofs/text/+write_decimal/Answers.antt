-- `text::write_decimal`: the digits are those of the definition.
use Rattle.std.proofs.Common.{arith}
use Rattle.report_theory.specs.Decimals.{decimal_digit, decimal_more, length_digit, length_more}
use Rattle.report_theory.specs.Buffer.{then}
use Rattle.report_text.proofs.text.+write_decimal.Goals as goal

pub write_byte-requires : goal.write_byte-requires
write_byte-requires t c = omega (arith, length_digit c.args.n (omega arith))

pub write_decimal-next-requires : goal.write_decimal-next-requires
write_decimal-next-requires t c = (omega arith, omega (arith, length_more c.args.n (omega arith)))

pub write_byte-requires-else-n-lt10 : goal.write_byte-requires-else-n-lt10
write_byte-requires-else-n-lt10 t c = omega (arith, length_more c.args.n (omega arith))

pub returns-then-n-lt10 : goal.returns-then-n-lt10
returns-then-n-lt10 t c = rw (decimal_digit c.args.n (omega arith)) c.write_byte.ensures

pub returns-else-n-lt10 : goal.returns-else-n-lt10
returns-else-n-lt10 t c =
    let longer = length_more c.args.n (omega arith) in
    rw (decimal_more c.args.n (omega arith))
    (then (omega arith) c.write_decimal-next.ensures c.write_byte-else-n-lt10.ensures)
