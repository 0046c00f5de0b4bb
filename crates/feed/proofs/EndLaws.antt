-- What `record::write_entry` leaves of the part of the buffer that is lent for an entry, and the run that `ended` makes of it.
-- Assumes nothing.
use Prim.Native.Nat.{ℕ, ◌+◌, ◌-◌, ◌*◌, ◌≤◌, ◌<◌}
use mathlib.Core.Path.{◌≡◌, refl, sym, ap, ◌∙◌}
use mathlib.Core.List.{List, [], ◌∷◌, ◌++◌, append-nil, append_assoc}
use native.Mathlib.Omega.{arith}
use lib.ListN.{length, get_or, take, drop, length-take, length-drop}
use lib.Seq.{sets, sets-eq, take_all, drop-drop, drop-length}
use Rattle.bits.specs.Front.{onto}
use Rattle.std.specs.Prelude.{Result, Ok, Err}
use Rattle.entry.specs.declared.parse.DromEntry.{DromEntry}
use Rattle.entry.specs.declared.refusal.Refusal.{Refusal}
use Rattle.entry.specs.Refusals.{refusal_number}
use Rattle.entry.specs.Decode.{number_of, decode_of}
use Rattle.record.specs.Record.{record_of}
use Rattle.record.specs.Write.{record_bytes, write_answer, write_leaves}
use Rattle.record.proofs.WriteLaws.{room_answer, room_leaves, written_room, answer_record, answer_refused}
use Rattle.feed.specs.Run.{Run, run, refused, recorded, pending_entry, pending_at, ended}
use Rattle.feed.proofs.StepLaws.{pending_is, ended_record, ended_refused}

-- an entry without a second byte has the number 0
pub no_second : (bs : List ℕ) → length bs < 2 → get_or bs 1 0 ≡ 0
no_second [] h = refl
no_second (x ∷ []) h = refl
no_second (x ∷ y ∷ bs) h = absurd (omega arith)

pub drop_all : (n : ℕ) (l : List ℕ) → length l ≤ n → drop n l ≡ []
drop_all n l h = let d = length-drop n l in none (drop n l) (omega arith)
  where
    none : (xs : List ℕ) → length xs ≡ 0 → xs ≡ []
    none [] e = refl
    none (x ∷ xs) e = absurd (omega arith)

-- the part of a buffer from an offset on, and the buffer with another such part
abbrev pub part_of : List ℕ → ℕ → List ℕ
part_of buffer w = take (length buffer - w) (drop w buffer)

abbrev pub with_part : List ℕ → ℕ → List ℕ → List ℕ
with_part buffer w part = take w buffer ++ (part ++ drop (length buffer - w) (drop w buffer))

pub part_long : (buffer : List ℕ) (w : ℕ) → length (part_of buffer w) ≡ length buffer - w
part_long buffer w = simp (length-take, length-drop) (omega arith)

-- of a piece that goes to its end
pub rest_all : (piece : List ℕ) (i : ℕ) → part_of piece i ≡ drop i piece
rest_all piece i = take_all (length piece - i) (drop i piece) (omega (arith, length-drop i piece))

pub rest_long : (piece : List ℕ) (i : ℕ) → i < length piece → (length (part_of piece i) ≡ length piece - i) × (0 < length (part_of piece i))
rest_long piece i h = (part_long piece i, omega (arith, part_long piece i))

-- bytes at the front of the part are bytes at the offset
pub part_front : (buffer bytes : List ℕ) (w : ℕ) → w + length bytes ≤ length buffer → with_part buffer w (onto bytes (part_of buffer w)) ≡ sets buffer w bytes
part_front buffer bytes w h =
    let rest : List ℕ = drop w buffer in
    let size : length rest ≡ length buffer - w = length-drop w buffer in
    let all : part_of buffer w ≡ rest = take_all (length buffer - w) rest (omega arith) in
    let none : drop (length buffer - w) rest ≡ [] = ap (λ (n : ℕ). drop n rest) (sym size) ∙ drop-length rest in
    ap (λ (p : List ℕ). take w buffer ++ (onto bytes p ++ drop (length buffer - w) rest)) all
    ∙ ap (λ (p : List ℕ). take w buffer ++ (onto bytes rest ++ p)) none
    ∙ ap (λ (p : List ℕ). take w buffer ++ p) (append-nil (onto bytes rest))
    ∙ ap (λ (p : List ℕ). take w buffer ++ (bytes ++ p)) (drop-drop (length bytes) w buffer)
    ∙ sym (sets-eq bytes buffer w h ∙ append_assoc (take w buffer) bytes (drop (w + length bytes) buffer))

-- the entry's kind is the table's, there is room for it, and its record is written to the part behind the others
module _ (r : Run) (kind : ℕ) (part : List ℕ) (listed : kind ≡ get_or r.kinds (number_of (pending_entry r)) 0)
    (room : r.core.written + 4 * length (pending_entry r) ≤ length r.buffer)
    (leaves : part ≡ write_leaves (pending_entry r) kind (pending_at r.core) (part_of r.buffer r.core.written)) where
  enough : 4 * length (pending_entry r) ≤ length (part_of r.buffer r.core.written)
  enough = omega (arith, part_long r.buffer r.core.written)

  left : part ≡ onto (record_bytes (pending_at r.core) (pending_entry r) (decode_of kind (pending_entry r))) (part_of r.buffer r.core.written)
  left = leaves ∙ room_leaves (pending_entry r) kind (pending_at r.core) (part_of r.buffer r.core.written) enough

  is_kind : decode_of kind (pending_entry r) ≡ pending_is r
  is_kind = ap (λ (k : ℕ). decode_of k (pending_entry r)) listed

  pub written_record : (n : ℕ) → write_answer (pending_entry r) kind (pending_at r.core) (length (part_of r.buffer r.core.written)) ≡ Ok n
      → (n ≤ 4 * length (pending_entry r))
      × (ended r ≡ run (recorded r.core n) r.header r.pending r.kinds (with_part r.buffer r.core.written part))
  written_record n a =
      let told = answer_record (pending_at r.core) (pending_entry r) (decode_of kind (pending_entry r)) n (sym (room_answer (pending_entry r) kind (pending_at r.core) _ enough) ∙ a) in
      let bytes : List ℕ = record_of (pending_at r.core) (pending_entry r) told.entry in
      let fits : length bytes ≤ 4 * length (pending_entry r) = written_room (pending_entry r) kind (pending_at r.core) told.entry told.is in
      let lent : part ≡ onto bytes (part_of r.buffer r.core.written) =
      left ∙ ap (λ (d : Result DromEntry Refusal). onto (record_bytes (pending_at r.core) (pending_entry r) d) (part_of r.buffer r.core.written)) told.is
      in
      let whole : with_part r.buffer r.core.written part ≡ sets r.buffer r.core.written bytes =
      ap (with_part r.buffer r.core.written) lent ∙ part_front r.buffer bytes r.core.written (omega arith)
      in (
        omega (arith, told.size),
        ended_record r told.entry (sym is_kind ∙ told.is)
            ∙ ap (λ (k : ℕ). run (recorded r.core k) r.header r.pending r.kinds (sets r.buffer r.core.written bytes)) (sym told.size)
            ∙ ap (λ (x : List ℕ). run (recorded r.core n) r.header r.pending r.kinds x) (sym whole),
      )

  pub written_refused : (n : Refusal) → write_answer (pending_entry r) kind (pending_at r.core) (length (part_of r.buffer r.core.written)) ≡ Err n
      → ended r ≡ run (refused r.core (refusal_number n) (pending_at r.core)) r.header r.pending r.kinds (with_part r.buffer r.core.written part)
  written_refused n a =
      let told = answer_refused (pending_at r.core) (pending_entry r) (decode_of kind (pending_entry r)) n (sym (room_answer (pending_entry r) kind (pending_at r.core) _ enough) ∙ a) in
      let lent : part ≡ onto [] (part_of r.buffer r.core.written) =
      left ∙ ap (λ (d : Result DromEntry Refusal). onto (record_bytes (pending_at r.core) (pending_entry r) d) (part_of r.buffer r.core.written)) told
      in
      let whole : with_part r.buffer r.core.written part ≡ r.buffer =
      ap (with_part r.buffer r.core.written) lent ∙ part_front r.buffer [] r.core.written (omega arith)
      in
      ended_refused r n (sym is_kind ∙ told)
      ∙ ap (λ (x : List ℕ). run (refused r.core (refusal_number n) (pending_at r.core)) r.header r.pending r.kinds x) (sym whole)
