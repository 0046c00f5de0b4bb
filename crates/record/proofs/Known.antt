-- What is known of the bytes that an entry was decoded from: its row, that they are long enough, and what its counts count.
-- Assumes nothing.
use Prim.Native.Nat.{ℕ, ◌-◌, ◌%◌, ◌≤◌}
use mathlib.Core.Path.{◌≡◌, refl, ap, ◌∙◌}
use mathlib.Core.List.{List}
use native.Mathlib.Omega.{arith}
use lib.ListN.{length, drop, length-drop}
use Rattle.entry.specs.declared.parse.DromEntry.{DromEntry}
use Rattle.entry.specs.declared.parse.DromEntry.TheVariants.{Unknown}
use Rattle.std.specs.Prelude.{Ok, None}
use Rattle.entry.specs.Rows.{Row, unknown, adapter, unused, display_port, lane, pcie_up, pcie_down, generic, ascii_vendor, ascii_model, tmu, product, serial, usb3_map, utf16_vendor, utf16_model, data_path, dptx, embedded_link, least, utf16_from, text_in, row_of}
use Rattle.entry.specs.Decode.{values_of, text_refusal, row_entry, decode_of}
use Rattle.entry.proofs.DecodeLaws.{decoded_values, row_plain, row_unknown}
use Rattle.entry.proofs.DecodeLaws as decode_laws
use Rattle.bits.specs.Fields.{pack}
use Rattle.record.specs.Record.{row_is, head_of, payload_of, record_of}
use Rattle.record.proofs.PayloadLength.{payload_length}
use Rattle.record.proofs.TextLaws.{text_even}

-- ---- the row

values_row : (row : Row) (bs : List ℕ) → row_is (values_of row bs) ≡ row
values_row unknown bs = refl
values_row adapter bs = refl
values_row unused bs = refl
values_row display_port bs = refl
values_row lane bs = refl
values_row pcie_up bs = refl
values_row pcie_down bs = refl
values_row generic bs = refl
values_row ascii_vendor bs = refl
values_row ascii_model bs = refl
values_row tmu bs = refl
values_row product bs = refl
values_row serial bs = refl
values_row usb3_map bs = refl
values_row utf16_vendor bs = refl
values_row utf16_model bs = refl
values_row data_path bs = refl
values_row dptx bs = refl
values_row embedded_link bs = refl

pub row_is_lem : (row : Row) (bs : List ℕ) (e : DromEntry) → row_entry row bs ≡ Ok e → row_is e ≡ row
row_is_lem row bs e d = ap row_is (decoded_values row bs e d).0 ∙ values_row row bs

-- The writers require this of an entry: these bytes decode to it.
pub decode_row : (kind : ℕ) (bs : List ℕ) (e : DromEntry) → decode_of kind bs ≡ Ok e → row_entry (row_is e) bs ≡ Ok e
unfolding decode_of
decode_row kind bs e d = rw (row_is_lem (row_of kind bs) bs e d) d

-- ---- the lengths

module _ (bs : List ℕ) {e : DromEntry} (d : row_entry (row_is e) bs ≡ Ok e) where
  pub fits : least (row_is e) bs ≤ length bs
  fits = (decoded_values (row_is e) bs e d).1

  pub counted : payload_length bs e ≡ payload_length bs (values_of (row_is e) bs)
  counted = ap (payload_length bs) (decoded_values (row_is e) bs e d).0

  pub accepted : text_refusal (text_in (row_is e)) bs ≡ None
  accepted = (decoded_values (row_is e) bs e d).2

  -- of a UTF-16 text from byte i on
  pub even : (i : ℕ) → text_in (row_is e) ≡ utf16_from i → (length bs - i) % 2 ≡ 0
  even i t = rw length-drop at (text_even (drop i bs) (rw t at accepted))

-- ---- an entry of one byte

module _ (bs : List ℕ) (one : length bs ≡ 1) where
  pub decode_one : (kind : ℕ) → decode_of kind bs ≡ Ok Unknown
  decode_one kind = decode_laws.decode_row kind bs unknown (row_unknown kind bs (omega arith)) ∙ row_plain unknown bs refl (omega arith)

  -- its record is a head, and no more
  pub record_one : (offset : ℕ) → record_of offset bs Unknown ≡ pack (head_of 0 offset 1)
  unfolding record_of payload_of
  record_one offset = ap (λ (L : ℕ). pack (head_of 0 offset L)) one
