-- Document 01, "Header": its values, its verdicts, and why a DROM is refused before its entries. Offsets from 0.
-- Assumes nothing.
use Rattle.std.specs.Prelude.{Bool, cond, not, ◌&&◌, List, [], ◌∷◌, ℕ, ◌+◌, ◌%◌, ltb, eqb, length, take, drop}
use Rattle.bits.specs.Bits.{byte, le2, le4, le8}
use Rattle.util.specs.Crc.{crc_of8, crc_of32}
use Rattle.drom.specs.Numbers.{too_few, wrong_length, short_tbt3, small_buffer, odd_list, first_of}

-- "Byte 0 is CRC8; 1 to 8 the UUID, little-endian; 9 to 12 CRC32, little-endian; 13 the version; 14 and 15, little-endian, modulo 4,096, the length."
abbrev pub crc8_in : List ℕ → ℕ
crc8_in drom = byte 0 drom

abbrev pub uuid_in : List ℕ → ℕ
uuid_in drom = le8 (byte 1 drom) (byte 2 drom) (byte 3 drom) (byte 4 drom) (byte 5 drom) (byte 6 drom) (byte 7 drom) (byte 8 drom)

abbrev pub crc32_in : List ℕ → ℕ
crc32_in drom = le4 (byte 9 drom) (byte 10 drom) (byte 11 drom) (byte 12 drom)

abbrev pub version_in : List ℕ → ℕ
version_in drom = byte 13 drom

abbrev pub length_in : List ℕ → ℕ
length_in drom = le2 (byte 14 drom) (byte 15 drom) % 4096

-- "The body starts at 22 if the version is below 3 (TBT3), else at 16."
abbrev pub is_tbt3 : List ℕ → Bool
is_tbt3 drom = ltb (version_in drom) 3

abbrev pub body_start : List ℕ → ℕ
body_start drom = cond (is_tbt3 drom) 22 16

-- CRC8 "covers bytes 1 to 8. Only TBT3 has CRC8 and UUID; otherwise .. the verdict is no."
unfoldable pub crc8_right : List ℕ → Bool
crc8_right drom = is_tbt3 drom && eqb (crc_of8 (take 8 (drop 1 drom))) (crc8_in drom)

-- CRC32 is "over bytes 13 to the end"
unfoldable pub crc32_right : List ℕ → Bool
crc32_right drom = eqb (crc_of32 (drop 13 drom)) (crc32_in drom)

-- the least record buffer for a DROM of so many bytes
abbrev pub room_for : ℕ → ℕ
room_for size = 16368

-- the tests before a header is looked at, and those of the header, in their order: 5, 4, 1, then 2, 3
abbrev pub open_tests : List ℕ → ℕ → ℕ → List (Bool × ℕ)
open_tests list size room =
    (eqb (length list % 2) 1, odd_list) ∷ (ltb room (room_for size), small_buffer) ∷ (ltb size 16, too_few) ∷ []

abbrev pub header_tests : ℕ → List ℕ → List (Bool × ℕ)
header_tests size drom =
    (not (eqb (length_in drom + 13) size), wrong_length) ∷ (is_tbt3 drom && ltb size 22, short_tbt3) ∷ []

-- the number of 16 header bytes of a DROM of so many bytes: 2, then 3; 0 if they are accepted
abbrev pub header_number : ℕ → List ℕ → ℕ
header_number size drom = first_of (header_tests size drom)

-- why the header of a whole DROM is refused: 1, then 2, then 3; 0 if it is accepted
abbrev pub header_refusal : List ℕ → ℕ
header_refusal drom = first_of ((ltb (length drom) 16, too_few) ∷ header_tests (length drom) drom)
