-- How long a record is: 4 bytes and its payload, and never more than four times as long as the entry.
-- Assumes nothing.
use Prim.Native.Nat.{ℕ, ◌+◌, ◌*◌, ◌/◌, ◌≤◌}
use mathlib.Core.Path.{◌≡◌, refl, ap, ◌∙◌}
use mathlib.Core.List.{List, [], ◌∷◌}
use native.Mathlib.Omega.{arith}
use lib.ListN.{length, take, drop, length-append, length-take, length-drop}
use Rattle.bits.specs.Fields.{◌∶◌, byte_fields, pack}
use Rattle.bits.proofs.LawsFields.{widths, pack_length, widths_bytes}
use Rattle.util.specs.Utf16.{utf16_text}
use Rattle.entry.specs.declared.parse.DromEntry.{DromEntry}
use Rattle.entry.specs.declared.parse.DromEntry.TheVariants.{Unknown, Adapter, UnusedAdapter, DisplayPortAdapter, LaneAdapter, PcieUpAdapter, PcieDownAdapter, Generic, AsciiVendorName, AsciiModelName, Tmu, ProductDescriptor, SerialNumber, Usb3PortMapping, Utf16VendorName, Utf16ModelName, SingleDataPath, DptxRanking, EmbeddedLink}
use Rattle.std.specs.Prelude.{Ok}
use Rattle.entry.specs.Rows.{Row, unknown, adapter, unused, display_port, lane, pcie_up, pcie_down, generic, ascii_vendor, ascii_model, tmu, product, serial, usb3_map, utf16_vendor, utf16_model, data_path, dptx, embedded_link, least}
use Rattle.entry.specs.Decode.{name_of, values_of, row_entry}
use Rattle.record.specs.Record.{row_is, tag_of, head_of, map_fields, rank_fields, payload_of, record_of}
use Rattle.record.proofs.PayloadLength.{payload_length}
use Rattle.record.proofs.RecordLaws.{head_append, head_length_lem}
use Rattle.record.proofs.TextLaws.{name_length, text_length}
use Rattle.record.proofs.Known.{fits, counted}

-- ---- the lists

map_widths : (bs : List ℕ) → widths (map_fields bs) ≡ 24 * (length bs / 3)
unfolding map_fields
map_widths [] = refl
map_widths (a ∷ []) = omega arith
map_widths (a ∷ b ∷ []) = omega arith
map_widths (a ∷ b ∷ c ∷ bs) = omega (arith, map_widths bs)

rank_widths : (bs : List ℕ) → widths (rank_fields bs) ≡ 8 * length bs
unfolding rank_fields
rank_widths [] = refl
rank_widths (b ∷ bs) = omega (arith, rank_widths bs)

module _ (bs : List ℕ) where
  -- ---- the texts

  name_bytes : (n : ℕ) → n ≡ length (name_of bs) → 3 ≤ length bs → length (pack (n ∶ 8 ∷ byte_fields (take n (drop 2 bs)))) ≡ 1 + n
  name_bytes n e h =
      let text = take n (drop 2 bs) in
      omega (arith, pack_length (n ∶ 8 ∷ byte_fields text), widths_bytes text, length-take n (drop 2 bs), length-drop 2 bs, name_length bs (omega arith))

  text_bytes_length : (n : ℕ) → n ≡ length (utf16_text (drop 2 bs)) → length (pack (n ∶ 8 ∷ byte_fields (utf16_text (drop 2 bs)))) ≡ 1 + n
  text_bytes_length n e =
      omega (arith, pack_length (n ∶ 8 ∷ byte_fields (utf16_text (drop 2 bs))), widths_bytes (utf16_text (drop 2 bs)))

  -- ---- the payload

  pub payload_length_lem : (e : DromEntry) → row_entry (row_is e) bs ≡ Ok e → length (pack (payload_of bs e)) ≡ payload_length bs e
  unfolding payload_of
  payload_length_lem Unknown x = pack_length (payload_of bs Unknown)
  payload_length_lem (Adapter d n) x = pack_length (payload_of bs (Adapter d n))
  payload_length_lem (UnusedAdapter n) x = pack_length (payload_of bs (UnusedAdapter n))
  payload_length_lem (DisplayPortAdapter n v p) x = pack_length (payload_of bs (DisplayPortAdapter n v p))
  payload_length_lem (LaneAdapter f d n o) x = pack_length (payload_of bs (LaneAdapter f d n o))
  payload_length_lem (PcieUpAdapter n f d) x = pack_length (payload_of bs (PcieUpAdapter n f d))
  payload_length_lem (PcieDownAdapter n f d) x = pack_length (payload_of bs (PcieDownAdapter n f d))
  payload_length_lem (Generic k) x = omega (arith, pack_length (payload_of bs (Generic k)), widths_bytes (drop 2 bs), length-drop 2 bs, fits bs x)
  payload_length_lem (AsciiVendorName n) x = name_bytes n (omega (arith, counted bs x)) (fits bs x)
  payload_length_lem (AsciiModelName n) x = name_bytes n (omega (arith, counted bs x)) (fits bs x)
  payload_length_lem (Tmu m r) x = pack_length (payload_of bs (Tmu m r))
  payload_length_lem (ProductDescriptor u v p f t r) x = pack_length (payload_of bs (ProductDescriptor u v p f t r))
  payload_length_lem (SerialNumber l n) x = omega (arith, pack_length (payload_of bs (SerialNumber l n)), widths_bytes (utf16_text (drop 4 bs)), counted bs x)
  payload_length_lem (Usb3PortMapping n) x = omega (arith, pack_length (payload_of bs (Usb3PortMapping n)), map_widths (drop 2 bs), length-drop 2 bs, counted bs x)
  payload_length_lem (Utf16VendorName n) x = text_bytes_length n (omega (arith, counted bs x))
  payload_length_lem (Utf16ModelName n) x = text_bytes_length n (omega (arith, counted bs x))
  payload_length_lem (SingleDataPath p) x = pack_length (payload_of bs (SingleDataPath p))
  payload_length_lem (DptxRanking a m n o u) x = omega (arith, pack_length (payload_of bs (DptxRanking a m n o u)), rank_widths (take n (drop 5 bs)), length-take n (drop 5 bs), length-drop 5 bs, counted bs x, fits bs x)
  payload_length_lem (EmbeddedLink l) x = pack_length (payload_of bs (EmbeddedLink l))

  values_room : (row : Row) → least row bs ≤ length bs → 4 + payload_length bs (values_of row bs) ≤ 4 * length bs
  values_room unknown h = omega arith
  values_room adapter h = omega arith
  values_room unused h = omega arith
  values_room display_port h = omega arith
  values_room lane h = omega arith
  values_room pcie_up h = omega arith
  values_room pcie_down h = omega arith
  values_room generic h = omega arith
  values_room ascii_vendor h = omega (arith, name_length bs (omega arith))
  values_room ascii_model h = omega (arith, name_length bs (omega arith))
  values_room tmu h = omega arith
  values_room product h = omega arith
  values_room serial h = omega (arith, text_length (drop 4 bs), length-drop 4 bs)
  values_room usb3_map h = omega arith
  values_room utf16_vendor h = omega (arith, text_length (drop 2 bs), length-drop 2 bs)
  values_room utf16_model h = omega (arith, text_length (drop 2 bs), length-drop 2 bs)
  values_room data_path h = omega arith
  values_room dptx h = omega arith
  values_room embedded_link h = omega arith

  pub payload_room : (e : DromEntry) → row_entry (row_is e) bs ≡ Ok e → 4 + payload_length bs e ≤ 4 * length bs
  payload_room e d = rw (counted bs d) (values_room (row_is e) (fits bs d))

  -- ---- the record

  pub record_length_lem : (offset : ℕ) (e : DromEntry) → row_entry (row_is e) bs ≡ Ok e → length (record_of offset bs e) ≡ 4 + payload_length bs e
  unfolding record_of
  record_length_lem offset e d =
      let head = head_of (tag_of e) offset (length bs) in
      ap length (head_append (tag_of e) offset (length bs) (payload_of bs e))
      ∙ length-append (pack head) (pack (payload_of bs e))
      ∙ omega (arith, head_length_lem (tag_of e) offset (length bs), payload_length_lem e d)

  pub record_room : (offset : ℕ) (e : DromEntry) → row_entry (row_is e) bs ≡ Ok e → length (record_of offset bs e) ≤ 4 * length bs
  record_room offset e d = omega (arith, record_length_lem offset e d, payload_room e d)
