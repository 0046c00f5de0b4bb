-- The loop of `pairs_of`: the pairs in front, and those of the kinds from `i` on, are all pairs.
use Rattle.std.proofs.Common.{◌≡◌, ◌*◌, ◌++◌, length, take, drop}
use Rattle.listed.specs.Pairs.{pairs_from}
use Rattle.listed.proofs.pairs_of.Given as goal

abbrev pub invariant-loop-i : goal.invariant-loop-i
invariant-loop-i l =
    (length l.kind-items ≡ 64) × (length l.pairs ≡ 128) × (take (2 * l.i) l.pairs ++ pairs_from l.i (drop l.i l.kind-items) ≡ pairs_from 0 l.kind-items)
