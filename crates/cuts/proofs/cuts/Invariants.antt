-- No more cuts differ than were compared.
use Rattle.std.proofs.Common.{◌≤◌}
use Rattle.cuts.proofs.cuts.Given as goal

abbrev pub invariant-loop-cut : goal.invariant-loop-cut
invariant-loop-cut g l = l.differ ≤ l.cut-counter
