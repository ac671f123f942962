-- The hit table (rule A4): entry C-1 is the sum of the depths 1 to C.
use Rattle.std.specs.Prelude.{ℕ, ◌+◌, ◌%◌, ◌≤◌, ◌<◌, min, ◌≡◌, refl, List, ◌++◌, length, drop, get_or, set}
use Rattle.std.proofs.Common.{arith, ap}
use Rattle.rules.specs.Limits.{capacities}
use Rattle.rules.specs.Lists.{values_from}
use Rattle.rules.specs.TableLaws.{values_next, values_same}
use Rattle.kept.specs.Tally.{up_to, up_to_step, up_to_grows}

-- what an entry of 32 bits holds of a number: all of it, of any sum of a run's depths
abbrev pub word : ℕ → ℕ
word n = n % 4294967296

-- the sums at the capacities 1 to n in front, and behind them what stood there
unfoldable pub sums : List ℕ → ℕ → List ℕ → List ℕ
sums depths n table = values_from (λ c. word (up_to depths c)) 1 n ++ drop n table

-- at as many capacities as are asked for, as far as the table has entries and there are depths
unfoldable pub filled : List ℕ → ℕ → List ℕ → List ℕ
filled depths k table = sums depths (min (min k (length table)) capacities) table

pub sums_start : (depths table : List ℕ) → table ≡ sums depths 0 table
unfolding sums values_from
sums_start depths table = refl

pub sums_next : (depths before table : List ℕ) (c : ℕ) → c < length before → table ≡ sums depths c before
    → set table c (word (up_to depths (c + 1))) ≡ sums depths (c + 1) before
unfolding sums
sums_next depths before table c room e = values_next (λ d. word (up_to depths d)) table before c room e

-- one depth more, added to what an entry holds of the sum so far
pub word_step : (depths : List ℕ) (c total : ℕ) → total ≡ word (up_to depths c)
    → word (total + get_or depths (c + 1) 0) ≡ word (up_to depths (c + 1))
word_step depths c total e = omega (arith, e, up_to_step depths c)

pub sums_end : (depths before table : List ℕ) (k c : ℕ) → c ≡ min (min k (length before)) capacities
    → table ≡ sums depths c before → table ≡ filled depths k before
unfolding filled
sums_end depths before table k c end e = rw (← end) e

-- where the table has an entry for each capacity and no entry is too small for its sum, the entries are the sums
pub filled_sums : (depths table : List ℕ) (k : ℕ) → k ≤ capacities → k ≤ length table → up_to depths k < 4294967296
    → filled depths k table ≡ values_from (up_to depths) 1 k ++ drop k table
unfolding filled sums
filled_sums depths table k high room small =
    let all : min (min k (length table)) capacities ≡ k = omega arith in
    rw all (ap (λ (l : List ℕ). l ++ drop k table)
    (values_same (λ c. word (up_to depths c)) (up_to depths) 1 k
    (λ c low most. omega (arith, up_to_grows depths c k (omega arith)))))
