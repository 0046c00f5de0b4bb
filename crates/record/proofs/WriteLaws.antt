-- What `write_entry` promises to a caller that has room: it is not refused as too small, and what was written is the record. And what its answer's
-- number and size are (`small_number`, `room_number`, `small_size`, `room_size`).
-- Assumes nothing.
use mathlib.Core.Path.{◌≡◌, refl, ap}
use mathlib.Core.List.{List}
use Prim.Native.Nat.{ℕ, ◌*◌, ◌/◌, ◌<◌, ◌≤◌}
use native.Mathlib.Omega.{arith}
use borrow.Author.Tests.{lt-ltb, le-ltb}
use lib.ListN.{length}
use Rattle.bits.specs.Front.{onto}
use Rattle.entry.specs.declared.parse.DromEntry.{DromEntry}
use Rattle.std.specs.Prelude.{Result, Ok, Err}
use Rattle.entry.specs.declared.refusal.Refusal.{Refusal}
use Rattle.entry.specs.declared.refusal.Refusal.TheVariants.{SmallBuffer}
use Rattle.entry.specs.Adapters.{kind_in}
use Rattle.entry.proofs.FitLaws.{refused_number}
use Rattle.entry.specs.Decode.{number_of, decode_of, decoded_number}
use Rattle.record.specs.Record.{record_of}
use Rattle.record.specs.Write.{record_bytes, answer_of, write_answer, write_leaves, written_number, written_size}
use Rattle.record.proofs.Known.{decode_row}
use Rattle.record.proofs.Lengths.{record_length_lem, record_room}

module _ (bs : List ℕ) (kind offset : ℕ) where
  pub room_answer : (room : ℕ) → 4 * length bs ≤ room → write_answer bs kind offset room ≡ answer_of offset bs (decode_of kind bs)
  unfolding write_answer
  room_answer room h = rw (le-ltb (room / 4) (length bs) (omega arith))

  pub room_leaves : (buffer : List ℕ) → 4 * length bs ≤ length buffer → write_leaves bs kind offset buffer ≡ onto (record_bytes offset bs (decode_of kind bs)) buffer
  unfolding write_leaves
  room_leaves buffer h = rw (le-ltb (length buffer / 4) (length bs) (omega arith))

  -- "No entry's record exceeds 4 times L bytes"
  pub written_room : (e : DromEntry) → decode_of kind bs ≡ Ok e → length (record_of offset bs e) ≤ 4 * length bs
  written_room e d = record_room bs offset e (decode_row kind bs e d)

  -- a record has its head at least
  pub written_least : (e : DromEntry) → decode_of kind bs ≡ Ok e → 4 ≤ length (record_of offset bs e)
  written_least e d = omega (arith, record_length_lem bs offset e (decode_row kind bs e d))

-- ---- what an answer tells: its number, and its size

module _ (bs : List ℕ) (kind offset room : ℕ) where
  -- 4 below four times L, with no bytes
  pub small_number : room < 4 * length bs → written_number (write_answer bs kind offset room) ≡ 4
  unfolding write_answer
  small_number h = rw (lt-ltb (room / 4) (length bs) (omega arith))

  pub small_size : room < 4 * length bs → written_size (write_answer bs kind offset room) ≡ 0
  unfolding write_answer
  small_size h = rw (lt-ltb (room / 4) (length bs) (omega arith))

  -- and else the number of decoding, and how many bytes are laid at the buffer's front
  pub room_number : 4 * length bs ≤ room → written_number (write_answer bs kind offset room) ≡ decoded_number (decode_of kind bs)
  room_number h = rw (room_answer bs kind offset room h) (go (decode_of kind bs))
    where
      go : (d : Result DromEntry Refusal) → written_number (answer_of offset bs d) ≡ decoded_number d
      go (Ok e) = refl
      go (Err r) = refl

  pub room_size : 4 * length bs ≤ room → written_size (write_answer bs kind offset room) ≡ length (record_bytes offset bs (decode_of kind bs))
  room_size h = rw (room_answer bs kind offset room h) (go (decode_of kind bs))
    where
      go : (d : Result DromEntry Refusal) → written_size (answer_of offset bs d) ≡ length (record_bytes offset bs d)
      go (Ok e) = refl
      go (Err r) = refl

-- ---- what an answer tells of the entry

-- a record of n bytes: the entry is decoded, and they are its record's
pub record Recorded (offset : ℕ) (bs : List ℕ) (d : Result DromEntry Refusal) (n : ℕ) : Type 0 where
  pub entry : DromEntry
  pub is : d ≡ Ok entry
  pub size : n ≡ length (record_of offset bs entry)

pub answer_record : (offset : ℕ) (bs : List ℕ) (d : Result DromEntry Refusal) (n : ℕ) → answer_of offset bs d ≡ Ok n → Recorded offset bs d n
answer_record offset bs (Ok e) n a = record { entry = e; is = refl; size = cc }
answer_record offset bs (Err r) n a = absurd (cc)

pub answer_refused : (offset : ℕ) (bs : List ℕ) (d : Result DromEntry Refusal) (r : Refusal) → answer_of offset bs d ≡ Err r → d ≡ Err r
answer_refused offset bs (Ok e) r a = absurd (cc)
answer_refused offset bs (Err s) r a = cc

-- an entry by itself is not refused as a small buffer is
pub answer_room : (offset : ℕ) (bs : List ℕ) (kind : ℕ) → answer_of offset bs (decode_of kind bs) ≡ Err SmallBuffer → ⊥
answer_room offset bs kind a =
    omega (arith, refused_number kind bs SmallBuffer (answer_refused offset bs (decode_of kind bs) SmallBuffer a))

-- an entry's record depends on nothing but its offset, its bytes and the kind that is listed for its number
pub record_depends : (list others : List ℕ) (offset : ℕ) (bs : List ℕ) → kind_in list (number_of bs) ≡ kind_in others (number_of bs)
    → record_bytes offset bs (decode_of (kind_in list (number_of bs)) bs) ≡ record_bytes offset bs (decode_of (kind_in others (number_of bs)) bs)
record_depends list others offset bs e = ap (λ (k : ℕ). record_bytes offset bs (decode_of k bs)) e
