-- `write_text` meets its contract: at the end nothing is left to show.
-- Assumes nothing.
use Rattle.std.proofs.Common.{arith}
use Rattle.util.proofs.Text.{writing_end}
use Rattle.util.proofs.utf16.write_text.Goals as goal

pub returns : goal.returns
returns c = writing_end _ _ _ _ _ c.requires c.loop-step.invariant (omega arith)
