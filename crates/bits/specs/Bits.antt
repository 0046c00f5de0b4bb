-- Bytes of a list, bits of a number, and numbers of several bytes, in the document's words.
-- Where the bit numbers are written out, each computes to plain division and remainder: `bits 4 3 x` is `x / 8 % 4`, and `bits 5 0 x` is `x % 64`.
use Rattle.std.specs.Prelude.{ℕ, zero, suc, ◌+◌, ◌*◌, ◌-◌, ◌/◌, ◌%◌, ◌^◌, ◌<◌, Bool, true, false, List, eqb, ℤ, pos, negsuc, get_or}

-- Byte `i`, counted from 0.
abbrev pub byte : ℕ → List ℕ → ℕ
byte i bytes = get_or bytes i 0

-- Each number of a list is a byte.
abbrev pub Bytes : List ℕ → Type 0
Bytes xs = (i : ℕ) → get_or xs i 0 < 256

-- The low `n` bits of `x`.
abbrev pub low : ℕ → ℕ → ℕ
low n x = x % 2 ^ n

-- Bits `hi..lo` of `x`, where bit 0 is the least significant.
abbrev pub bits : ℕ → ℕ → ℕ → ℕ
bits hi zero x = low (suc hi) x
bits hi (suc lo) x = low (suc hi - suc lo) (x / 2 ^ suc lo)

-- Bit `i` of `x` is set.
abbrev pub bit : ℕ → ℕ → Bool
bit i x = eqb (bits i i x) 1

-- A flag as a number.
abbrev pub flag : Bool → ℕ
flag true = 1
flag false = 0

-- A signed number as a byte, in two's complement.
abbrev pub twos : ℤ → ℕ
twos (pos n) = n
twos (negsuc n) = 256 - suc n

-- Numbers of two, four and eight bytes, little-endian: the first byte is the least significant.
abbrev pub le2 : ℕ → ℕ → ℕ
le2 a b = a + b * 256

abbrev pub le4 : ℕ → ℕ → ℕ → ℕ → ℕ
le4 a b c d = le2 a b + c * 256 ^ 2 + d * 256 ^ 3

abbrev pub le8 : ℕ → ℕ → ℕ → ℕ → ℕ → ℕ → ℕ → ℕ → ℕ
le8 a b c d e f g h = le4 a b c d + e * 256 ^ 4 + f * 256 ^ 5 + g * 256 ^ 6 + h * 256 ^ 7
