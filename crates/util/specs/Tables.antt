-- What the two constant tables of src/tables.rt hold, as rules over all their entries.
-- Only private functions' contracts cite them; no public promise rests on them.
-- Assumes nothing.
use Rattle.std.specs.Prelude.{◌≡◌, ℕ, suc, ◌+◌, ◌*◌, ◌<◌, List, slice_index}
use Rattle.util.specs.Crc.{times, bit_of32}

-- CRC32_TABLE: "each is shown to be eight single-bit steps of its index"
unfoldable pub Stepped : List ℕ → Type 0
Stepped t = (k : ℕ) → k < 256 → slice_index t k ≡ times 8 bit_of32 k

-- CRC32_ROWS: sixteen rows of sixteen. Row r has, at n, four single-bit steps of n for row 0, and four more for each further row.
abbrev pub Rowed : List ℕ → Type 0
Rowed t = (r n : ℕ) → r < 16 → n < 16 → slice_index t (r * 16 + n) ≡ times (suc r * 4) bit_of32 n
