-- A range of numbers, both ends included, as RFC 3629 writes %x80-BF and document 01 "21 to 7E".
-- Assumes nothing.
use Rattle.std.specs.Prelude.{ℕ, Bool, ◌&&◌, nat_le}

abbrev pub range : ℕ → ℕ → ℕ → Bool
range first last n = nat_le first n && nat_le n last
