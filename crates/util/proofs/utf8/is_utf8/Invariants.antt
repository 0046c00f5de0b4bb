-- The loop of `is_utf8`: the bytes from `i` on are UTF-8 if and only if all are. The measure is what is left of the length.
use Rattle.std.proofs.Common.{◌≡◌, ◌-◌, ◌≤◌, length, drop}
use Rattle.util.specs.Utf8.{is_utf8}
use Rattle.util.proofs.utf8.is_utf8.Given as goal

abbrev pub invariant-loop-i : goal.invariant-loop-i
invariant-loop-i l = (l.i ≤ length l.bytes) × (is_utf8 (drop l.i l.bytes) ≡ is_utf8 l.bytes)

abbrev pub decreases-loop-i : goal.decreases-loop-i
decreases-loop-i l = length l.bytes - l.i
