-- Numbers as bytes, least significant first: what a C struct holds on x86-64.
-- Assumes nothing.
use Rattle.std.specs.Prelude.{List, [], ◌∷◌, ◌++◌, ℕ, zero, suc, ◌+◌, ◌*◌, ◌/◌, ◌%◌, take, drop}

-- the bytes of a number, `width` of them; of a number that is too large for them, only its low bytes
unfoldable pub le : ℕ → ℕ → List ℕ
le zero n = []
le (suc width) n = n % 256 ∷ le width (n / 256)

-- eight bytes for each number, one number after the other
unfoldable pub numbers_bytes : List ℕ → List ℕ
numbers_bytes [] = []
numbers_bytes (n ∷ ns) = le 8 n ++ numbers_bytes ns

-- the number that bytes make
unfoldable pub number : List ℕ → ℕ
number [] = 0
number (b ∷ bs) = number bs * 256 + b

-- the `width` bytes at an offset, and the number that stands there
abbrev pub part : ℕ → ℕ → List ℕ → List ℕ
part at width bytes = take width (drop at bytes)

abbrev pub number_at : ℕ → ℕ → List ℕ → ℕ
number_at at width bytes = number (part at width bytes)
