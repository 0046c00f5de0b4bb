-- A part of a lent DROM as C and Rust get it: its place, in two numbers of eight bytes, least significant first, at the front of
-- the bytes that are lent for it.
-- Assumes nothing.
use Rattle.std.specs.Prelude.{Bool, cond, List, [], ◌∷◌, ℕ, ltb, eqb, length, take, drop}
use Rattle.bits.specs.Front.{onto}
use Rattle.drom.specs.Header.{body_start}
use Rattle.drom.specs.Parts.{header_part, body_part, whole_part, entry_part, entry_offset}
use Rattle.capi.specs.Bytes.{numbers_bytes, number_at}
use Rattle.capi.specs.Calls.{no_room}

-- where a part starts in the DROM, and how many bytes it has
pub record Place : Type 0 where
  pub offset : ℕ
  pub size : ℕ

-- an empty part is 0 and 0
abbrev pub place_of : ℕ → ℕ → Place
place_of at size = record { offset = cond (eqb size 0) 0 at; size = size }

abbrev pub bytes_at : List ℕ → Place → List ℕ
bytes_at drom place = take place.size (drop place.offset drom)

-- ---- the places of the parts: proofs/PlaceLaws.antt has places_are, that the bytes at each are the part

abbrev pub header_place : List ℕ → Place
header_place drom = place_of 0 (length (header_part drom))

abbrev pub body_place : List ℕ → Place
body_place drom = place_of (body_start drom) (length (body_part drom))

abbrev pub whole_place : List ℕ → Place
whole_place drom = place_of 0 (length (whole_part drom))

abbrev pub entry_place : List ℕ → List ℕ → ℕ → Place
entry_place list drom n = place_of (entry_offset list drom n) (length (entry_part list drom n))

-- ---- what a call answers, and what it leaves of the bytes that are lent for the place

abbrev pub place_size : ℕ
place_size = 16

abbrev pub place_bytes : Place → List ℕ
place_bytes place = numbers_bytes (place.offset ∷ place.size ∷ [])

-- the place that is read there: proofs/PlaceLaws.antt has read_there, that it is the one that was written
abbrev pub place_in : List ℕ → Place
place_in bytes = record { offset = number_at 0 8 bytes; size = number_at 8 8 bytes }

abbrev pub no_place : List ℕ → Bool
no_place lent = ltb (length lent) place_size

abbrev pub place_answer : List ℕ → ℕ
place_answer lent = cond (no_place lent) no_room 0

unfoldable pub place_leaves : Place → List ℕ → List ℕ
place_leaves place lent = cond (no_place lent) lent (onto (place_bytes place) lent)
