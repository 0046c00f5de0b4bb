-- The digits of the bytes so far stand at the room's front.
use Rattle.std.proofs.Common.{◌≡◌, ◌*◌, take}
use Rattle.std.specs.List.{flat_map}
use Rattle.lines.specs.Hex.{hex_pair}
use Rattle.lines.proofs.text.pairs.Given as goal

abbrev pub invariant-loop-i : goal.invariant-loop-i
invariant-loop-i l = take (2 * l.i) l.room ≡ flat_map hex_pair (take l.i l.chunk)
