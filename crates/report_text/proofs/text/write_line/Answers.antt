-- `text::write_line`: four numbers, one after the other.
use Rattle.std.proofs.Common.{ℕ, ◌+◌, ◌≡◌, ◌++◌, length, length-append, arith}
use Rattle.report_theory.specs.Text.{decimal}
use Rattle.report_theory.specs.Report.{line}
use Rattle.report_theory.specs.Buffer.{then}
use Rattle.report_theory.specs.Pieces.{number_then, number_long, line_numbers, length_line}
use Rattle.report_text.proofs.text.write_line.Goals as goal

-- how long a line is: its four numbers, and the byte behind each
room : (k a b c : ℕ) → length (line k a b c)
    ≡ length (decimal k) + 1 + (length (decimal a) + 1) + (length (decimal b) + 1) + (length (decimal c) + 1)
room k a b c =
    omega (arith, length_line k a b c, number_long k 32, number_long a 32, number_long b 32, number_long c 10)

pub write_number-after_capacity-requires : goal.write_number-after_capacity-requires
write_number-after_capacity-requires c = omega (arith, room c.args.capacity c.args.lru c.args.lfu c.args.opt)

pub write_number-after_lru-requires : goal.write_number-after_lru-requires
write_number-after_lru-requires c =
    let a = c.args in
    omega (arith, room a.capacity a.lru a.lfu a.opt, number_long a.capacity 32)

pub write_number-after_lfu-requires : goal.write_number-after_lfu-requires
write_number-after_lfu-requires c =
    let a = c.args in
    omega (arith, room a.capacity a.lru a.lfu a.opt, number_long a.capacity 32, number_long a.lru 32)

pub write_number-requires : goal.write_number-requires
write_number-requires c =
    let a = c.args in
    omega (
      arith,
      room a.capacity a.lru a.lfu a.opt,
      number_long a.capacity 32,
      number_long a.lru 32,
      number_long a.lfu 32,
    )

pub returns : goal.returns
returns c =
    let a = c.args in
    let k = a.capacity in
    let whole = length_line k a.lru a.lfu a.opt in
    let first = length-append (number_then k 32) (number_then a.lru 32) in
    let second = length-append (number_then k 32 ++ number_then a.lru 32) (number_then a.lfu 32) in
    rw (line_numbers k a.lru a.lfu a.opt)
    (then (omega (arith, whole, first, second))
    (then (omega (arith, whole, first))
    (then (omega (arith, whole)) c.write_number-after_capacity.ensures c.write_number-after_lru.ensures)
    c.write_number-after_lfu.ensures)
    c.write_number.ensures)
