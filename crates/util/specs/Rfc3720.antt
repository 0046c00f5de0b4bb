-- CRC-32C as RFC 3720 defines it, in our own words: the bytes are a polynomial over the field of two elements, and the checksum is the
-- remainder of its division by the generator, with the first bits complemented before and the remainder after.
-- A polynomial is the list of its coefficients, the highest power first.
-- That the register of specs/Crc.antt comes to the same is `crc_means` in proofs/CrcMeans.antt.
-- Assumes nothing.
use Rattle.std.specs.Prelude.{◌≡◌, ℕ, zero, suc, ◌+◌, ◌-◌, ◌*◌, ◌/◌, ◌%◌, Bool, false, cond, not, List, [], ◌∷◌, ◌++◌, map, reverse, length, take, drop, replicate, ◌==◌}
use Rattle.std.specs.Bool.{xor}
use Rattle.bits.specs.Bits.{flag}

-- The low n bits of a number, the least significant first; and the number that bits in this order make.
unfoldable pub bits_of : ℕ → ℕ → List Bool
bits_of zero x = []
bits_of (suc n) x = (x % 2 == 1) ∷ bits_of n (x / 2)

unfoldable pub number_of : List Bool → ℕ
number_of [] = 0
number_of (b ∷ bs) = flag b + 2 * number_of bs

-- Two polynomials, their highest powers one under the other, added; the shorter one goes on with zeros. As 1 + 1 is 0, this is their
-- difference too.
unfoldable pub plus : List Bool → List Bool → List Bool
plus [] bs = bs
plus (a ∷ xs) [] = a ∷ xs
plus (a ∷ xs) (b ∷ bs) = xor a b ∷ plus xs bs

-- The generator, 11EDC6F41: the coefficients of x^32 down to x^0.
unfoldable pub generator : List Bool
generator = reverse (bits_of 33 0x11EDC6F41)

-- ---- what is divided

-- The message: all bits of the bytes, of each byte the least significant first. The very first is the coefficient of the highest power.
-- (RFC 3720 counts the bits of a byte from the most significant one, so the least significant is its bit 7.)
unfoldable pub message : List ℕ → List Bool
message [] = []
message (b ∷ bs) = bits_of 8 b ++ message bs

-- The first 32 coefficients are complemented.
unfoldable pub complemented : List Bool → List Bool
complemented bs = map not (take 32 bs) ++ drop 32 bs

-- The message times x^32 is divided. We multiply before we complement, so that a message of fewer than 32 bits has 32 to complement;
-- for the others the order does not matter.
unfoldable pub dividend : List ℕ → List Bool
dividend bytes = complemented (message bytes ++ replicate 32 false)

-- ---- long division

-- If the coefficient of the highest power is 1, the generator is taken away under it. Then it is 0 in any case, and is left out.
unfoldable pub step : List Bool → List Bool
step [] = []
step (b ∷ bs) = drop 1 (cond b (plus generator (b ∷ bs)) (b ∷ bs))

unfoldable pub steps : ℕ → List Bool → List Bool
steps zero bs = bs
steps (suc n) bs = steps n (step bs)

-- What is left when the powers from x^32 on are gone.
unfoldable pub remainder : List Bool → List Bool
remainder bs = steps (length bs - 32) bs

-- The checksum: the remainder, complemented. Its bits follow the message's in the same order, the highest power first, and of each byte the
-- least significant bit first; so x^31 has the least significant bit of the number that the four bytes are, read little-endian.
unfoldable pub crc3720 : List ℕ → ℕ
crc3720 bytes = number_of (map not (remainder (dividend bytes)))

-- ---- what a remainder is, however it is found

-- The generator times a quotient: 32 coefficients more than the quotient has.
unfoldable pub multiple : List Bool → List Bool
multiple [] = replicate 32 false
multiple (q ∷ qs) = plus (cond q generator []) (false ∷ multiple qs)

-- The polynomial bs is a multiple of the generator, plus a rest that has the powers x^31 to x^0 only.
-- There is one such rest, and long division finds it: `remainder_means` in proofs/CrcMeans.antt.
pub record Remains (bs rest : List Bool) : Type 0 where
  pub quotient : List Bool
  pub degree : length rest ≡ 32
  pub sum : bs ≡ plus (multiple quotient) (replicate (length quotient) false ++ rest)
