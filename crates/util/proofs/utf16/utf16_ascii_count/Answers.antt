-- `utf16_ascii_count` meets its contract: at the end nothing is left to show.
-- Assumes nothing.
use Rattle.std.proofs.Common.{arith}
use Rattle.util.proofs.Text.{counting_end}
use Rattle.util.proofs.utf16.utf16_ascii_count.Goals as goal

pub returns : goal.returns
returns c = counting_end _ _ _ c.loop-step.invariant (omega arith)
