-- Document 01, "Entries": what a record's head says, and where the record ends, so that records which follow each other can be told apart.
-- `bs` begins with a record, and other bytes may follow it.
-- Assumes nothing.
use Rattle.std.specs.Prelude.{cond, List, [], ◌∷◌, ℕ, ◌+◌, ◌-◌, ◌*◌, leb, ltb, length, get_or}
use Rattle.bits.specs.Bits.{byte, bits}
use Rattle.record.specs.declared.step.Head.{Head}

-- "tag 8, offset 13, L 8, three zeros"
abbrev pub head_tag : List ℕ → ℕ
head_tag bs = byte 0 bs

abbrev pub head_offset : List ℕ → ℕ
head_offset bs = byte 1 bs * 32 + bits 7 3 (byte 2 bs)

abbrev pub head_length : List ℕ → ℕ
head_length bs = bits 2 0 (byte 2 bs) * 32 + bits 7 3 (byte 3 bs)

-- the head, and zeros where the bytes end before it does
unfoldable pub head_in : List ℕ → Head
head_in bs =
    cond (ltb (length bs) 4) (record { tag = 0; offset = 0; length = 0 })
    (record { tag = head_tag bs; offset = head_offset bs; length = head_length bs })

-- How many bytes a payload has, by tag, 0 to 18: L less 1 for a generic kind; a text behind its length; three bytes a map, behind their count;
-- a byte a rank, with n in the payload's second byte.
abbrev pub payload_sizes : List ℕ → List ℕ
payload_sizes bs =
    0 ∷ 1 ∷ 1 ∷ 2 ∷ 2 ∷ 2 ∷ 2 ∷ (head_length bs - 1) ∷ (1 + byte 4 bs) ∷ (1 + byte 4 bs) ∷ 2 ∷ 13
    ∷ (3 + byte 6 bs) ∷ (1 + 3 * byte 4 bs) ∷ (1 + byte 4 bs) ∷ (1 + byte 4 bs) ∷ 1 ∷ (3 + bits 7 4 (byte 5 bs)) ∷ 1 ∷ []

-- the size of a record of this tag
unfoldable pub tagged_size : ℕ → List ℕ → ℕ
tagged_size tag bs = 4 + get_or (payload_sizes bs) tag 0

-- How many bytes the record at the front has. 0 where none can stand there: the tag is above 18, or the bytes end before the record does. Bytes
-- that end before its length is told are among these, since a record reaches beyond its length.
unfoldable pub record_size : List ℕ → ℕ
record_size bs =
    cond (leb (head_tag bs) 18) (cond (leb (tagged_size (head_tag bs) bs) (length bs)) (tagged_size (head_tag bs) bs) 0) 0
