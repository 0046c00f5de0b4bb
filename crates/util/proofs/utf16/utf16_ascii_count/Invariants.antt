-- The loop of `utf16_ascii_count`, `Counting`: the count so far, and what is shown from `i` on, are the whole text's length. The measure is how
-- many bytes are left.
use Rattle.std.proofs.Common.{◌-◌, length}
use Rattle.util.proofs.Text.{Counting}
use Rattle.util.proofs.utf16.utf16_ascii_count.Given as goal

abbrev pub invariant-loop-step : goal.invariant-loop-step
invariant-loop-step l = Counting l.bytes l.i l.n

abbrev pub decreases-loop-step : goal.decreases-loop-step
decreases-loop-step l = length l.bytes - l.i
