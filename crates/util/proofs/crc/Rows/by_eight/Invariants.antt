-- The loop of `by_eight`: from the register so far, the rest comes to what all bytes come to from the first register. The measure is the
-- rest's length.
use Rattle.std.proofs.Common.{◌≡◌, length}
use Rattle.util.specs.Crc.{over, byte_of32}
use Rattle.util.proofs.crc.Rows.by_eight.Given as goal

abbrev pub invariant-loop-eight : goal.invariant-loop-eight
invariant-loop-eight l = over byte_of32 l.x l.rest ≡ over byte_of32 l.initial.x l.bytes

abbrev pub decreases-loop-eight : goal.decreases-loop-eight
decreases-loop-eight l = length l.rest
