-- What one line adds to the counts at most: a DROM of 4,200 bytes has 4,201 cuts in two and three feedings in pieces.
-- Assumes nothing.
use Rattle.std.specs.Prelude.{◌≤◌}
use Rattle.cuts.specs.declared.Tally.{Tally}

abbrev pub OfOneLine : Tally → Type 0
OfOneLine t = (t.droms ≤ 1) × (t.feedings ≤ 4204) × (t.readings ≤ 1) × (t.differ ≤ 4205)
