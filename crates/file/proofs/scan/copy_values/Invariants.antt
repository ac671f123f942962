-- `scan::copy_values`: what is left to put into the table, from where the loop stands, makes of it what all values make of
-- the table as it was lent; and it fits.
use Rattle.std.proofs.Common.{◌≡◌, ◌+◌, ◌≤◌, length}
use Rattle.std.proofs.lemmas.List.Edits.{sets}
use Rattle.std.specs.Slice.Iter.{chunks_exact_rest, chunks_exact_size}
use Rattle.std.specs.Iterator.Adapters.{enumerate_source, enumerate_count}
use Rattle.file_theory.specs.Format.{all_numbers}
use Rattle.file.proofs.scan.copy_values.Given as goal

abbrev pub invariant-loop-i : goal.invariant-loop-i
invariant-loop-i l = record {
  pairs : chunks_exact_size (enumerate_source l.i-iterator) ≡ 2;
  to_put :
      sets l.table (enumerate_count l.i-iterator) (all_numbers (chunks_exact_rest (enumerate_source l.i-iterator)))
      ≡ sets l.initial.table 0 (all_numbers l.values);
  fits :
      enumerate_count l.i-iterator + length (all_numbers (chunks_exact_rest (enumerate_source l.i-iterator)))
      ≤ length l.initial.table;
}
