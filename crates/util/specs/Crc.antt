-- The two checksums of a DROM, bit by bit: CRC8 as document 01 describes it, and CRC-32C of RFC 3720.
-- Both are a register that takes in one byte after the other. That CRC-32C is then the RFC's remainder is said in specs/Rfc3720.antt.
-- Assumes nothing.
use Rattle.std.specs.Prelude.{ℕ, zero, suc, ◌*◌, ◌/◌, ◌%◌, cond, List, [], ◌∷◌, ◌==◌, bit_xor}

-- f, n times
abbrev pub times : ℕ → (ℕ → ℕ) → ℕ → ℕ
times zero f x = x
times (suc n) f x = times n f (f x)

-- the register c after each of the bytes, where `take c b` is what the register becomes as the byte b comes in
abbrev pub over : (ℕ → ℕ → ℕ) → ℕ → List ℕ → ℕ
over take c [] = c
over take c (b ∷ bs) = over take (take c b) bs

-- CRC8: "eight doublings that drop the top bit, each followed by exclusive-or with 07 if the dropped bit was set"
unfoldable pub bit_of8 : ℕ → ℕ
bit_of8 c = cond (c / 0x80 == 1) (bit_xor (c * 2 % 0x100) 0x07) (c * 2 % 0x100)

-- "per byte, exclusive-or it in", then the eight
unfoldable pub byte_of8 : ℕ → ℕ → ℕ
byte_of8 c b = times 8 bit_of8 (bit_xor c b)

-- "start FF"
unfoldable pub crc_of8 : List ℕ → ℕ
crc_of8 bs = over byte_of8 0xFF bs

-- CRC-32C, "reflected polynomial 82F63B78": a halving that drops the lowest bit, and an exclusive-or with the polynomial if that bit was set
unfoldable pub bit_of32 : ℕ → ℕ
bit_of32 c = cond (c % 2 == 1) (bit_xor (c / 2) 0x82F63B78) (c / 2)

unfoldable pub byte_of32 : ℕ → ℕ → ℕ
byte_of32 c b = times 8 bit_of32 (bit_xor c b)

-- "start and final exclusive-or FFFFFFFF": the register to start from, and the checksum that a register stands for
abbrev pub start32 : ℕ
start32 = 0xFFFFFFFF

unfoldable pub final32 : ℕ → ℕ
final32 c = bit_xor c 0xFFFFFFFF

unfoldable pub crc_of32 : List ℕ → ℕ
crc_of32 bs = final32 (over byte_of32 start32 bs)
