-- `scan::first_bad_page`: while no page was bad, the first bad page of all values is that of the rest.
use Rattle.std.proofs.Common.{◌≡◌}
use Rattle.std.specs.Slice.Iter.{chunks_exact_rest, chunks_exact_size}
use Rattle.std.specs.Iterator.Adapters.{enumerate_source, enumerate_count}
use Rattle.rules.specs.Refusals.{accepted, first_bad_page as first_bad_page_of}
use Rattle.file_theory.specs.Format.{all_numbers}
use Rattle.file.proofs.scan.first_bad_page.Given as goal

abbrev pub invariant-loop-i : goal.invariant-loop-i
invariant-loop-i l = record {
  pairs : chunks_exact_size (enumerate_source l.i-iterator) ≡ 2;
  good_so_far :
      let left = all_numbers (chunks_exact_rest (enumerate_source l.i-iterator)) in
      first_bad_page_of 0 (all_numbers l.values) accepted ≡ first_bad_page_of (enumerate_count l.i-iterator) left accepted;
}
