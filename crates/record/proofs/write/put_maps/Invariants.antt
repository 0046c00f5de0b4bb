-- The loop of `put_maps`: the maps before those that are left are written, and for these there is room.
use Prim.Native.Nat.{◌+◌, ◌≤◌}
use mathlib.Core.Path.{◌≡◌}
use lib.ListN.{length}
use Rattle.std.specs.Slice.Iter.{chunks_exact_size, chunks_exact_rest}
use Rattle.bits.specs.Fields.{pack}
use Rattle.record.specs.Record.{map_fields}
use Rattle.record.proofs.Turns.{Writing}
use Rattle.record.proofs.write.put_maps.Given as goal

abbrev pub invariant-loop-m : goal.invariant-loop-m
invariant-loop-m l =
    let rest = chunks_exact_rest l.m-iterator in
    (chunks_exact_size l.m-iterator ≡ 3) × (l.n + length rest ≤ length l.out) × Writing (pack (map_fields l.maps)) (pack (map_fields rest)) l.initial.out l.out l.n
