-- The loop of `put_ranks`: the ranks before byte `i` are written, and the buffer is as long as lent.
use mathlib.Core.Path.{◌≡◌}
use lib.ListN.{length, drop}
use Rattle.bits.specs.Fields.{pack}
use Rattle.record.specs.Record.{rank_fields}
use Rattle.record.proofs.Turns.{Writing}
use Rattle.record.proofs.write.put_ranks.Given as goal

abbrev pub invariant-loop-i : goal.invariant-loop-i
invariant-loop-i l = (length l.out ≡ length l.initial.out) × Writing (pack (rank_fields l.ranks)) (pack (rank_fields (drop l.i l.ranks))) l.initial.out l.out l.i
