-- `scan::rising`: while no value broke the rule, the scan of all values says what the scan of the rest says.
use Rattle.std.proofs.Common.{◌≡◌}
use Rattle.std.specs.Slice.Iter.{chunks_exact_rest, chunks_exact_size}
use Rattle.file_theory.specs.Format.{all_numbers}
use Rattle.file_theory.specs.Decoding.{rising as rising_of}
use Rattle.file.proofs.scan.rising.Given as goal

abbrev pub invariant-loop-pair : goal.invariant-loop-pair
invariant-loop-pair l = record {
  pairs : chunks_exact_size l.pair-iterator ≡ 2;
  unbroken : rising_of 0 (all_numbers l.values) ≡ rising_of l.before (all_numbers (chunks_exact_rest l.pair-iterator));
}
