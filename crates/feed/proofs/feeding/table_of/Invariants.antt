-- The loop of `table_of` goes from the list's end, so that what was seen before is overwritten: the table is that of the pairs taken.
use Rattle.std.proofs.Common.{◌≡◌}
use Rattle.std.specs.Iterator.Adapters.{rev_source}
use Rattle.std.specs.Slice.Iter.{chunks_exact_size, chunks_exact_rest}
use Rattle.feed.proofs.OpenLaws.{Tabled}
use Rattle.feed.proofs.feeding.table_of.Given as goal

abbrev pub invariant-loop-pair : goal.invariant-loop-pair
invariant-loop-pair l =
    let rest = rev_source l.pair-iterator in
    (chunks_exact_size rest ≡ 2) × Tabled l.list l.kinds (chunks_exact_rest rest)
