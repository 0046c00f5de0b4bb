-- Document 01's text rule for UTF-16, over the Unicode Standard's decoding (D91): code units become scalar values,
-- or unpaired surrogates, first; what is kept of them comes second. What D91 encodes is in specs/Utf16Form.antt.
-- Assumes nothing.
use Rattle.std.specs.Prelude.{ℕ, ◌+◌, ◌-◌, ◌*◌, ◌/◌, ◌%◌, Bool, cond, ◌&&◌, Result, Ok, Err, List, [], ◌∷◌, ◌++◌, length, ◌==◌, nat_lt}
use Rattle.bits.specs.Front.{onto}
use Rattle.util.specs.Range.{range}
use Rattle.util.specs.declared.utf16.Utf16Error.{Utf16Error}
use Rattle.util.specs.declared.utf16.Utf16Error.TheVariants.{OddLength, NoRoom}

-- "UTF-16 units are little-endian"
abbrev pub units : List ℕ → List ℕ
units [] = []
units (a ∷ []) = []
units (a ∷ b ∷ bs) = (a + 0x100 * b) ∷ units bs

-- what code units decode to, one after the other
pub data Char : Type 0 where
  scalar : ℕ → Char
  unpaired : Char

-- a high surrogate and a low one after it are a pair
unfoldable pub is_pair : ℕ → ℕ → Bool
is_pair u v = range 0xD800 0xDBFF u && range 0xDC00 0xDFFF v

-- a unit that is no part of a pair
unfoldable pub alone : ℕ → Char
alone u = cond (range 0xD800 0xDFFF u) unpaired (scalar u)

-- "the unit after an unpaired high one is read afresh"
unfoldable pub decode : List ℕ → List Char
decode [] = []
decode (u ∷ []) = alone u ∷ []
decode (u ∷ v ∷ us) =
    cond (is_pair u v)
    (scalar (0x10000 + (u - 0xD800) * 0x400 + (v - 0xDC00)) ∷ decode us)
    (alone u ∷ decode (v ∷ us))

-- "characters 21 to 7E are kept, other valid ones (space too) dropped, each unpaired surrogate gives one '.'"
unfoldable pub kept : Char → List ℕ
kept (scalar n) = cond (range 0x21 0x7E n) (n ∷ []) []
kept unpaired = 0x2E ∷ []

unfoldable pub kept_of : List Char → List ℕ
kept_of [] = []
kept_of (x ∷ xs) = kept x ++ kept_of xs

-- the text of units, and of bytes
unfoldable pub text_of : List ℕ → List ℕ
text_of us = kept_of (decode us)

abbrev pub utf16_text : List ℕ → List ℕ
utf16_text bytes = text_of (units bytes)

-- what `bytes_to_utf16_ascii` answers, for bytes and the size of the buffer lent: an odd count is told first,
-- then a buffer with less than a byte for each unit
unfoldable pub utf16_answer : List ℕ → ℕ → Result ℕ Utf16Error
utf16_answer bytes room =
    cond (length bytes % 2 == 1) (Err OddLength)
    (cond (nat_lt room (length bytes / 2)) (Err NoRoom) (Ok (length (utf16_text bytes))))

-- and what the buffer is then
unfoldable pub utf16_leaves : List ℕ → List ℕ → List ℕ
utf16_leaves bytes buffer =
    cond (length bytes % 2 == 1) buffer
    (cond (nat_lt (length buffer) (length bytes / 2)) buffer (onto (utf16_text bytes) buffer))

-- "Where an answer is an enum, a definition gives this paper's number and values for each case of the enum": 0 and the text's length; 11,
-- "UTF-16 part of odd length"; or 4, the number of a buffer that is too small. Proofs of crate drom (NumberLaws `enum_numbers`) hold these to the
-- names that stand above this crate.
abbrev pub utf16_ascii_number : Result ℕ Utf16Error → ℕ
utf16_ascii_number (Ok n) = 0
utf16_ascii_number (Err OddLength) = 11
utf16_ascii_number (Err NoRoom) = 4

abbrev pub utf16_ascii_length : Result ℕ Utf16Error → ℕ
utf16_ascii_length (Ok n) = n
utf16_ascii_length (Err e) = 0
