-- The loop of `walk`, `Going`: the entries passed so far have their records at the buffer's front, and the rest of the walk is the one from
-- here on. The measure is how many bytes are left.
use Prim.Native.Nat.{◌-◌}
use lib.ListN.{length}
use Rattle.entry.specs.Adapters.{kind_in}
use Rattle.drom.proofs.WalkTurns.{Going}
use Rattle.drom.proofs.walk.walk.Given as goal

abbrev pub invariant-loop-at : goal.invariant-loop-at
invariant-loop-at l = Going (kind_in l.list) l.drom l.start l.initial.out l.out l.at l.records l.bytes

abbrev pub decreases-loop-at : goal.decreases-loop-at
decreases-loop-at l = length l.drom - l.at
