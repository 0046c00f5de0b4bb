-- What `write_entry` answers, and what it leaves of the buffer.
-- Assumes nothing.
use Rattle.std.specs.Prelude.{cond, Result, Ok, Err, List, [], ℕ, ◌/◌, ltb, length}
use Rattle.bits.specs.Front.{onto}
use Rattle.entry.specs.declared.parse.DromEntry.{DromEntry}
use Rattle.entry.specs.declared.refusal.Refusal.{Refusal}
use Rattle.entry.specs.declared.refusal.Refusal.TheVariants.{SmallBuffer}
use Rattle.entry.specs.Refusals.{answer_number}
use Rattle.entry.specs.Decode.{decode_of}
use Rattle.record.specs.Record.{record_of}

-- the bytes of a decoded entry's record, and none of a refused one
abbrev pub record_bytes : ℕ → List ℕ → Result DromEntry Refusal → List ℕ
record_bytes offset bs (Ok e) = record_of offset bs e
record_bytes offset bs (Err r) = []

-- the record's size, or why the entry is refused
abbrev pub answer_of : ℕ → List ℕ → Result DromEntry Refusal → Result ℕ Refusal
answer_of offset bs (Ok e) = Ok (length (record_of offset bs e))
answer_of offset bs (Err r) = Err r

-- For an entry's bytes, the kind that is listed for its number, its offset and the size of the buffer lent. A buffer below four times L is
-- refused before the entry is looked at: "No entry's record exceeds 4 times L bytes". An entry by itself is never refused with that number
-- (`answer_room`, proofs/WriteLaws.antt).
unfoldable pub write_answer : List ℕ → ℕ → ℕ → ℕ → Result ℕ Refusal
write_answer bs kind offset room = cond (ltb (room / 4) (length bs)) (Err SmallBuffer) (answer_of offset bs (decode_of kind bs))

unfoldable pub write_leaves : List ℕ → ℕ → ℕ → List ℕ → List ℕ
write_leaves bs kind offset buffer =
    cond (ltb (length buffer / 4) (length bs)) buffer (onto (record_bytes offset bs (decode_of kind bs)) buffer)

-- 0 and the record's size; or the number of the refusal, and 0
abbrev pub written_number : Result ℕ Refusal → ℕ
written_number answer = answer_number answer

abbrev pub written_size : Result ℕ Refusal → ℕ
written_size (Ok n) = n
written_size (Err r) = 0
