-- The loop of `offset_from`: the offset is never 0, and the entry that is left to count from here on is the one asked for. The measure is how many bytes are left.
use mathlib.Core.Path.{◌≡◌}
use Prim.Native.Nat.{◌-◌, ◌<◌, ◌≤◌}
use lib.ListN.{length, drop}
use Rattle.entry.specs.Adapters.{kind_in}
use Rattle.drom.specs.Walk.{walk_of}
use Rattle.drom.specs.Parts.{offset_in}
use Rattle.drom.proofs.parts.offset_from.Given as goal

abbrev pub invariant-loop-at : goal.invariant-loop-at
invariant-loop-at l =
    record {
      on : 0 < l.at;
      inside : l.at ≤ length l.drom;
      same : offset_in l.at (walk_of (kind_in l.list) l.at (drop l.at l.drom)).entries l.left ≡ offset_in l.start (walk_of (kind_in l.list) l.start (drop l.start l.drom)).entries l.n;
    }

abbrev pub decreases-loop-at : goal.decreases-loop-at
decreases-loop-at l = length l.drom - l.at
