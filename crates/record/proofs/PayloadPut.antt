-- The steps that the arms of `put_payload` have in common: bytes that are put where there is room for the payload are written, and so are
-- those of a front and of what is put behind it. And what is known in an arm of two rows. `bs` is the entry's bytes.
-- Assumes nothing.
use Prim.Native.Nat.{ℕ, ◌+◌, ◌-◌, ◌*◌, ◌%◌, ◌≤◌}
use mathlib.Core.Logic.{◌⊎◌, inl, inr}
use mathlib.Core.Path.{◌≡◌, refl, sym, ap, ◌∙◌}
use mathlib.Core.List.{List, [], ◌∷◌, ◌++◌}
use native.Mathlib.Omega.{arith}
use lib.ListN.{length, take, drop, length-append, length-take, length-drop}
use Rattle.std.specs.Prelude.{Ok}
use Rattle.bits.specs.Bits.{Bytes}
use Rattle.bits.specs.Fields.{Field, ◌∶◌, byte_fields, pack}
use Rattle.bits.specs.Front.{Wrote, Put}
use Rattle.bits.proofs.LawsFields.{widths, pack_append, pack_length, pack_all}
use Rattle.bits.proofs.LawsFront.{fitted, follows}
use Rattle.util.specs.Utf16.{utf16_text}
use Rattle.entry.specs.declared.parse.DromEntry.{DromEntry}
use Rattle.entry.specs.declared.parse.DromEntry.TheVariants.{PcieUpAdapter, PcieDownAdapter, AsciiVendorName, AsciiModelName, Utf16VendorName, Utf16ModelName}
use Rattle.entry.specs.Decode.{row_entry}
use Rattle.record.specs.Record.{row_is, payload_of}
use Rattle.record.proofs.Known.{fits, counted, even}
use Rattle.record.proofs.Lengths.{payload_length_lem, payload_room}
use Rattle.record.proofs.TextLaws.{name_length}

module _ (bs : List ℕ) {e : DromEntry} (d : row_entry (row_is e) bs ≡ Ok e) where
  payload_fits : (before : List ℕ) → 4 * length bs ≤ length before + 4 → length (pack (payload_of bs e)) ≤ length before
  payload_fits before room = omega (arith, payload_length_lem bs e d, payload_room bs e d)

  pub whole_put : {bytes before after : List ℕ} {n : ℕ} → 4 * length bs ≤ length before + 4
      → bytes ≡ pack (payload_of bs e) → Put bytes before after n → Wrote (pack (payload_of bs e)) before after n
  whole_put {before = before} {after = after} {n = n} room is w =
      let put : Put (pack (payload_of bs e)) before after n = rw is at w in
      fitted put (payload_fits before room)

  -- A front of `a` bytes, and fields behind it.
  module _ (front fs : List Field) (a : ℕ) (is : payload_of bs e ≡ front ++ fs) (wide : widths front ≡ 8 * a) where
    all : pack (payload_of bs e) ≡ pack front ++ pack fs
    all = ap pack is ∙ pack_append front fs (omega arith)

    both_fit : (before : List ℕ) → 4 * length bs ≤ length before + 4 → a + length (pack fs) ≤ length before
    both_fit before room =
        omega (arith, payload_fits before room, ap length all, length-append (pack front) (pack fs), pack_length front)

    pub front_put : {bytes before out part : List ℕ} {n m : ℕ} → 4 * length bs ≤ length before + 4
        → bytes ≡ pack front → Put bytes before out n → Wrote (pack fs) (take (length out - a) (drop a out)) part m
        → Wrote (pack (payload_of bs e)) before (take a out ++ (part ++ drop (length out - a) (drop a out))) (n + m)
    front_put {before = before} {out = out} {n = n} room front_is w v =
        let long : length (pack front) ≡ a = pack_length front ∙ omega arith in
        let put : Put (pack front) before out n = rw front_is at w in
        let first = fitted put (omega (arith, both_fit before room)) in
        let count : n ≡ a = first.counts ∙ long in
        rw (all, count) (follows a (sym long) first v)

  -- Bytes behind it.
  pub bytes_put : (front : List Field) (l : List ℕ) (a : ℕ) → Bytes l → payload_of bs e ≡ front ++ byte_fields l → widths front ≡ 8 * a
      → {bytes before out part : List ℕ} {n m : ℕ} → 4 * length bs ≤ length before + 4 → length out ≡ length before
      → bytes ≡ pack front → Put bytes before out n → Put l (take (length out - a) (drop a out)) part m
      → Wrote (pack (payload_of bs e)) before (take a out ++ (part ++ drop (length out - a) (drop a out))) (n + m)
  bytes_put front l a small is wide {before = before} {out = out} {part = part} {m = m} room same front_is w v =
      let own : pack (byte_fields l) ≡ l = pack_all l small in
      let enough : length l ≤ length (take (length out - a) (drop a out)) =
      omega (arith, both_fit front (byte_fields l) a is wide before room, ap length own, length-take (length out - a) (drop a out), length-drop a out) in
      front_put front (byte_fields l) a is wide room front_is w (rw own (fitted v enough))

  -- ---- the arms of two rows

  pub pcie_is : {number function device : ℕ} → (e ≡ PcieUpAdapter number function device) ⊎ (e ≡ PcieDownAdapter number function device)
      → payload_of bs e ≡ payload_of [] (PcieUpAdapter number function device)
  unfolding payload_of
  pcie_is (inl p) = rw p
  pcie_is (inr p) = rw p

  pub name_is : {n : ℕ} → (e ≡ AsciiVendorName n) ⊎ (e ≡ AsciiModelName n)
      → (2 + n ≤ length bs) × (payload_of bs e ≡ n ∶ 8 ∷ byte_fields (take n (drop 2 bs)))
  unfolding payload_of
  name_is {n} (inl p) =
      let v : row_entry (row_is (AsciiVendorName n)) bs ≡ Ok (AsciiVendorName n) = rw p at d in
      let h = fits bs v in
      (omega (arith, counted bs v, name_length bs (omega arith)), rw p)
  name_is {n} (inr p) =
      let v : row_entry (row_is (AsciiModelName n)) bs ≡ Ok (AsciiModelName n) = rw p at d in
      let h = fits bs v in
      (omega (arith, counted bs v, name_length bs (omega arith)), rw p)

  pub text_is : {n : ℕ} → (e ≡ Utf16VendorName n) ⊎ (e ≡ Utf16ModelName n)
      → (2 ≤ length bs) × (length bs % 2 ≡ 0) × (payload_of bs e ≡ n ∶ 8 ∷ byte_fields (utf16_text (drop 2 bs)))
  unfolding payload_of
  text_is {n} (inl p) =
      let v : row_entry (row_is (Utf16VendorName n)) bs ≡ Ok (Utf16VendorName n) = rw p at d in
      let h = fits bs v in
      (h, omega (arith, even bs v 2 refl), rw p)
  text_is {n} (inr p) =
      let v : row_entry (row_is (Utf16ModelName n)) bs ≡ Ok (Utf16ModelName n) = rw p at d in
      let h = fits bs v in
      (h, omega (arith, even bs v 2 refl), rw p)
