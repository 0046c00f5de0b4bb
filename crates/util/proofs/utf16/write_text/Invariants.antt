-- The loop of `write_text`, `Writing`: what is written, and what is shown from `i` on, are the whole text, and the rest of the buffer is as lent.
-- The measure is how many bytes are left.
use Rattle.std.proofs.Common.{◌-◌, length}
use Rattle.util.proofs.Text.{Writing}
use Rattle.util.proofs.utf16.write_text.Given as goal

abbrev pub invariant-loop-step : goal.invariant-loop-step
invariant-loop-step l = Writing l.bytes l.initial.out l.out l.i l.n

abbrev pub decreases-loop-step : goal.decreases-loop-step
decreases-loop-step l = length l.bytes - l.i
