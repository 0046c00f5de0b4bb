-- A loop that writes piece after piece, and the pieces of the two lists of a record: its maps and its ranks.
-- Assumes nothing.
use Prim.Native.Nat.{ℕ, ◌+◌, ◌-◌, ◌*◌, ◌/◌, ◌%◌, ◌<◌}
use mathlib.Core.Path.{◌≡◌, refl, sym, ◌∙◌}
use mathlib.Core.List.{List, [], ◌∷◌, ◌++◌, append_assoc, append-nil}
use native.Mathlib.Numerals.{add-one}
use native.Mathlib.Omega.{arith}
use lib.ListN.{length, get_or, take, drop, set}
use lib.Seq.{drop-cons}
use Rattle.bits.specs.Fields.{pack}
use Rattle.bits.specs.Front.{Wrote}
use Rattle.bits.proofs.LawsFields.{pack_append, pack_nil}
use Rattle.bits.proofs.LawsFront.{wrote_none, wrote_more, follows}
use Rattle.record.specs.Record.{map_fields, rank_fields}
use Rattle.record.proofs.RecordLaws.{rank_bytes}

-- Of `whole` all but `rest` is written.
pub record Writing (whole rest before after : List ℕ) (n : ℕ) : Type 0 where
  pub done : List ℕ
  pub wrote : Wrote done before after n
  pub sum : done ++ rest ≡ whole

pub writing_start : {whole before : List ℕ} → Writing whole whole before before 0
writing_start = record { done = []; wrote = wrote_none; sum = refl }

pub writing_end : {whole before after : List ℕ} {n : ℕ} → Writing whole [] before after n → Wrote whole before after n
writing_end w = rw (sym (append-nil w.done) ∙ w.sum) at w.wrote

-- A turn that writes a byte, and one that lends the part from `n` on to a writer.
pub writing_byte : {whole rest before after : List ℕ} {n a : ℕ} → Writing whole (a ∷ rest) before after n → n < length before
    → Writing whole rest before (set after n a) (n + 1)
writing_byte {rest = rest} {a = a} w h =
    record { done = w.done ++ (a ∷ []); wrote = wrote_more a w.wrote h; sum = append_assoc w.done (a ∷ []) rest ∙ w.sum }

pub writing_piece : {whole piece rest before after part : List ℕ} {n m : ℕ} → Writing whole (piece ++ rest) before after n
    → Wrote piece (take (length after - n) (drop n after)) part m
    → Writing whole rest before (take n after ++ (part ++ drop (length after - n) (drop n after))) (n + m)
writing_piece {piece = piece} {rest = rest} {n = n} w v =
    record { done = w.done ++ piece; wrote = follows n w.wrote.counts w.wrote v; sum = append_assoc w.done piece rest ∙ w.sum }

-- ---- the bytes from `i` on

next : (bs : List ℕ) (i : ℕ) → i < length bs → drop i bs ≡ get_or bs i 0 ∷ drop (i + 1) bs
next bs i h = drop-cons bs i 0 h ∙ rw add-one

pub next_rank : (bs : List ℕ) (i : ℕ) → i < length bs → get_or bs i 0 < 256
    → pack (rank_fields (drop i bs)) ≡ (get_or bs i 0 % 32 * 8 + get_or bs i 0 / 32) ∷ pack (rank_fields (drop (i + 1) bs))
next_rank bs i h small = rw (next bs i h) (rank_bytes (get_or bs i 0) (drop (i + 1) bs) small)

pub no_rank : pack (rank_fields []) ≡ []
unfolding rank_fields
no_rank = pack_nil

pub next_map : (m rest : List ℕ) → length m ≡ 3
    → pack (map_fields (m ++ rest)) ≡ pack (map_fields (get_or m 0 0 ∷ get_or m 1 0 ∷ get_or m 2 0 ∷ [])) ++ pack (map_fields rest)
unfolding map_fields
next_map [] rest h = absurd (omega arith)
next_map (a ∷ []) rest h = absurd (omega arith)
next_map (a ∷ b ∷ []) rest h = absurd (omega arith)
next_map (a ∷ b ∷ c ∷ []) rest h = pack_append (map_fields (a ∷ b ∷ c ∷ [])) (map_fields rest) refl
next_map (a ∷ b ∷ c ∷ d ∷ m) rest h = absurd (omega arith)

-- what is left of less than three bytes
pub no_map : (bs : List ℕ) → length bs < 3 → pack (map_fields bs) ≡ []
unfolding map_fields
no_map [] h = pack_nil
no_map (a ∷ []) h = pack_nil
no_map (a ∷ b ∷ []) h = pack_nil
no_map (a ∷ b ∷ c ∷ bs) h = absurd (omega arith)
