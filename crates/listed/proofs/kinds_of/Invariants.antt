-- The loop of `kinds_of`: the adapters that are left, and those that were taken, are the list; the table is that of those taken.
use Rattle.std.proofs.Common.{◌≡◌, List, ◌++◌}
use Rattle.std.specs.Iterator.Adapters.{rev_source}
use Rattle.std.specs.Slice.Iter.{iter_rest}
use Rattle.listed.specs.declared.Adapter.{Adapter}
use Rattle.feed.specs.Kinds.{table_of}
use Rattle.listed.specs.Pairs.{pairs_of}
use Rattle.listed.proofs.kinds_of.Given as goal

abbrev pub invariant-loop-adapter : goal.invariant-loop-adapter
invariant-loop-adapter l =
    (taken : List Adapter) × (iter_rest (rev_source l.adapter-iterator) ++ taken ≡ l.list) × (l.kinds.of ≡ table_of (pairs_of taken))
