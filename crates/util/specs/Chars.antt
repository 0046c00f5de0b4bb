-- What `char_len` tells of the character at the front of some bytes, which `is_utf8` steps by, and what `is_two`, `is_three` and `is_four` test.
-- Only private functions' contracts cite these; no public promise rests on them.
-- Assumes nothing.
use Rattle.std.specs.Prelude.{◌≡◌, ℕ, ◌<◌, ◌≤◌, false, List, length, get_or, drop, Option, Some, None}
use Rattle.util.specs.Utf8.{is_utf8}

-- a character of two, of three and of four bytes: the first byte's range, the tails', and what some first bytes ask of the second
abbrev pub Two : List ℕ → Type 0
Two bs = (1 < length bs) × (0xC2 ≤ get_or bs 0 0) × (get_or bs 0 0 ≤ 0xDF) × (0x80 ≤ get_or bs 1 0) × (get_or bs 1 0 ≤ 0xBF)

abbrev pub Three : List ℕ → Type 0
Three bs =
    (2 < length bs) × (0xE0 ≤ get_or bs 0 0) × (get_or bs 0 0 ≤ 0xEF)
    × (0x80 ≤ get_or bs 1 0) × (get_or bs 1 0 ≤ 0xBF) × (0x80 ≤ get_or bs 2 0) × (get_or bs 2 0 ≤ 0xBF)
    × (get_or bs 0 0 ≡ 0xE0 → 0xA0 ≤ get_or bs 1 0) × (get_or bs 0 0 ≡ 0xED → get_or bs 1 0 ≤ 0x9F)

abbrev pub Four : List ℕ → Type 0
Four bs =
    (3 < length bs) × (0xF0 ≤ get_or bs 0 0) × (get_or bs 0 0 ≤ 0xF4)
    × (0x80 ≤ get_or bs 1 0) × (get_or bs 1 0 ≤ 0xBF) × (0x80 ≤ get_or bs 2 0) × (get_or bs 2 0 ≤ 0xBF)
    × (0x80 ≤ get_or bs 3 0) × (get_or bs 3 0 ≤ 0xBF)
    × (get_or bs 0 0 ≡ 0xF0 → 0x90 ≤ get_or bs 1 0) × (get_or bs 0 0 ≡ 0xF4 → get_or bs 1 0 ≤ 0x8F)

-- a character of n bytes stands there, and the rest is to be judged; or none does
abbrev pub CharAt : List ℕ → Option ℕ → Type 0
CharAt bs (Some n) = (0 < n) × (n ≤ length bs) × (is_utf8 bs ≡ is_utf8 (drop n bs))
CharAt bs None = is_utf8 bs ≡ false
