-- The loop of `crc8`: from the register so far, the bytes from the index on come to what all come to from FF.
use Rattle.std.proofs.Common.{◌≡◌, drop}
use Rattle.util.specs.Crc.{over, byte_of8}
use Rattle.util.proofs.crc.crc8.Given as goal

abbrev pub invariant-loop-b : goal.invariant-loop-b
invariant-loop-b l = over byte_of8 l.c (drop l.b-index l.bytes) ≡ over byte_of8 0xFF l.bytes
