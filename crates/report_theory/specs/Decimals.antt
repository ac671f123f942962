-- Laws of decimal numbers: the digits of a number from those of its tenth, how many there are, and that the kit prints the same.
use Rattle.std.specs.Prelude.{ℕ, zero, suc, ◌+◌, ◌^◌, ◌/◌, ◌%◌, ◌≤◌, ◌<◌, ◌≡◌, [], ◌∷◌, ◌++◌, ltb, length}
use Rattle.std.specs.Fmt.{decimal as printed}
use Rattle.std.proofs.Common.{ap, ◌∙◌, not-suc-le-zero, arith, lt-ltb, le-ltb, ltb-false, length-append}
use Rattle.std.proofs.lemmas.Fmt.{AppendsLastDigit, decimal_from_appends, length-decimal-le, length-decimal-le_succ}
use Rattle.rules.specs.Cases.{by_cases}
use Rattle.report_theory.specs.Text.{digit, decimal_in, decimal}

-- room beyond the number itself makes no difference
room_enough : (a b n : ℕ) → n < a → n < b → decimal_in a n ≡ decimal_in b n
unfolding decimal_in
room_enough zero b n h k = absurd (not-suc-le-zero h)
room_enough (suc a) zero n h k = absurd (not-suc-le-zero k)
room_enough (suc a) (suc b) n h k =
    by_cases (ltb n 10)
    (λ e. rw e)
    (λ e.
    let ten : 10 ≤ n = ltb-false n 10 e in
    rw (e, room_enough a b (n / 10) (omega arith) (omega arith)))

pub decimal_digit : (n : ℕ) → n < 10 → decimal n ≡ digit n ∷ []
unfolding decimal decimal_in
decimal_digit n h = rw (lt-ltb n 10 h)

pub decimal_more : (n : ℕ) → 10 ≤ n → decimal n ≡ decimal (n / 10) ++ (digit (n % 10) ∷ [])
unfolding decimal decimal_in
decimal_more n h = rw (le-ltb n 10 h, room_enough n (suc (n / 10)) (n / 10) (omega arith) (omega arith))

pub length_digit : (n : ℕ) → n < 10 → length (decimal n) ≡ 1
length_digit n h = ap length (decimal_digit n h)

pub length_more : (n : ℕ) → 10 ≤ n → length (decimal n) ≡ length (decimal (n / 10)) + 1
length_more n h = ap length (decimal_more n h) ∙ length-append (decimal (n / 10)) (digit (n % 10) ∷ [])

appends : AppendsLastDigit decimal_in
unfolding decimal_in
appends = record { one = λ k n h. rw (lt-ltb n 10 h); more = λ k n h. rw (le-ltb n 10 h) }

-- a number of 64 bits as `{}` prints it
pub decimal_printed : (n : ℕ) → n < 2 ^ 64 → decimal n ≡ printed n
unfolding decimal
decimal_printed n h = decimal_from_appends decimal_in appends (suc n) n h (omega (arith, length-decimal-le_succ n h))

-- a number of 32 bits has at most ten digits
pub decimal_short : (n : ℕ) → n < 2 ^ 32 → length (decimal n) ≤ 10
decimal_short n h =
    let small : n < 2 ^ 64 = omega arith in
    rw (decimal_printed n small) (length-decimal-le 10 n (omega arith) (omega arith) small)
