-- The loop of `put_all`: the bytes before `i` are written, and the buffer is as long as lent.
use mathlib.Core.Path.{◌≡◌}
use lib.ListN.{length, take}
use Rattle.bits.specs.Front.{Wrote}
use Rattle.bits.proofs.put_all.Given as goal

abbrev pub invariant-loop-i : goal.invariant-loop-i
invariant-loop-i l = (length l.out ≡ length l.initial.out) × Wrote (take l.i l.bytes) l.initial.out l.out l.i
