-- The digits that are left, behind the number so far, write what all do.
use Rattle.std.proofs.Common.{◌≡◌, drop}
use Rattle.lines.specs.Words.{decimal_after}
use Rattle.lines.proofs.words.large_number.Given as goal

abbrev pub invariant-loop-b : goal.invariant-loop-b
invariant-loop-b l = decimal_after l.n (drop l.b-index l.word) ≡ decimal_after 0 l.word
