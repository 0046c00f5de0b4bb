-- The loop of `kind_in`: the kind in what is left of the list, from `i` on, is the kind in the whole. The measure is how many bytes are left.
use mathlib.Core.Path.{◌≡◌}
use Prim.Native.Nat.{◌-◌, ◌≤◌}
use lib.ListN.{length, drop}
use Rattle.entry.specs.Adapters.{kind_in}
use Rattle.entry.proofs.adapters.kind_in.Given as goal

abbrev pub invariant-loop-i : goal.invariant-loop-i
invariant-loop-i l = (l.i ≤ length l.list) × (kind_in (drop l.i l.list) l.number ≡ kind_in l.list l.number)

abbrev pub decreases-loop-i : goal.decreases-loop-i
decreases-loop-i l = length l.list - l.i
