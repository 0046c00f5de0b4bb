-- Document 01, "Ported and added": a list of adapters, "as bytes, number then kind".
-- Assumes nothing.
use Rattle.std.specs.Prelude.{cond, List, [], ◌∷◌, ℕ, eqb}

-- "1 Lane, 2 DisplayPort in, 3 DisplayPort out, 4 PCIe up, 5 PCIe down, anything else other" (specs/Rows.antt has the rows of these kinds).
-- This one stands for a number that is not listed.
abbrev pub other : ℕ
other = 0

-- the kind of a number: "the first adapter with that number counts"; a number that is not listed is other
unfoldable pub kind_in : List ℕ → ℕ → ℕ
kind_in [] number = other
kind_in (n ∷ []) number = other
kind_in (n ∷ kind ∷ list) number = cond (eqb n number) kind (kind_in list number)
