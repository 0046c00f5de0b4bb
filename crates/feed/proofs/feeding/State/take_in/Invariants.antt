-- The loop of `take_in`, `Held`: the rest of the piece leads where all of it led from the start. The measure is how many bytes are left.
use Prim.Native.Nat.{◌-◌}
use lib.ListN.{length}
use Rattle.feed.specs.Feed.{run_in}
use Rattle.feed.proofs.FeedLaws.{Held}
use Rattle.feed.proofs.feeding.State.take_in.Given as goal

abbrev pub invariant-loop-i : goal.invariant-loop-i
invariant-loop-i l = Held (run_in l.initial.self l.initial.records) l.piece (run_in l.self l.records) l.i

abbrev pub decreases-loop-i : goal.decreases-loop-i
decreases-loop-i l = length l.piece - l.i
