-- All digits so far were hex, and there is a byte of room for each pair that is left.
use Rattle.std.proofs.Common.{◌≡◌, length, ◌*◌}
use Rattle.std.specs.Slice.Iter.{iter_mut_rest, chunks_exact_rest, chunks_exact_size}
use Rattle.std.specs.Iterator.Adapters.{zip_first, zip_second}
use Rattle.lines.specs.Words.{all_hex}
use Rattle.lines.proofs.words.unhex.Given as goal

abbrev pub invariant-loop-byte : goal.invariant-loop-byte
invariant-loop-byte l = record {
  hex : all_hex (chunks_exact_rest (zip_second l.byte-iterator)) ≡ all_hex l.fn.word;
  pairs : chunks_exact_size (zip_second l.byte-iterator) ≡ 2;
  room : length (iter_mut_rest (zip_first l.byte-iterator)) * 2 ≡ length (chunks_exact_rest (zip_second l.byte-iterator));
}
