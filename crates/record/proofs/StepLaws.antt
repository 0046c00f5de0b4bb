-- The laws of the step from one record to the next: when a record is there, that it ends within the bytes, and that a record which was written is read
-- back: its head says what was written, and its size is its length.
-- Assumes nothing.
use Prim.Native.Nat.{ℕ, zero, suc, ◌+◌, ◌*◌, ◌/◌, ◌%◌, ◌<◌, ◌≤◌}
use mathlib.Core.Path.{◌≡◌, refl, ap, ◌∙◌}
use mathlib.Core.Bool.{Bool, true, false, cond}
use mathlib.Core.List.{List, ◌∷◌, ◌++◌}
use native.Mathlib.Nat.{div-add-mod'}
use native.Mathlib.Omega.{arith}
use borrow.Author.Tests.{le-leb, lt-leb, le-ltb, leb-true}
use lib.Dec.{leb}
use lib.ListN.{length, get_or, take, drop, length-append, length-drop}
use Rattle.bits.specs.Bits.{byte}
use Rattle.bits.specs.Fields.{Field, ◌∶◌, byte_fields, pack}
use Rattle.bits.proofs.LawsFields.{pack_run, pack_front}
use Rattle.util.specs.Utf16.{utf16_text}
use Rattle.entry.specs.declared.parse.DromEntry.{DromEntry}
use Rattle.entry.specs.declared.parse.DromEntry.TheVariants.{Unknown, Adapter, UnusedAdapter, DisplayPortAdapter, LaneAdapter, PcieUpAdapter, PcieDownAdapter, Generic, AsciiVendorName, AsciiModelName, Tmu, ProductDescriptor, SerialNumber, Usb3PortMapping, Utf16VendorName, Utf16ModelName, SingleDataPath, DptxRanking, EmbeddedLink}
use Rattle.std.specs.Prelude.{Ok}
use Rattle.entry.specs.Rows.{Row, unknown, adapter, unused, display_port, lane, pcie_up, pcie_down, generic, ascii_vendor, ascii_model, tmu, product, serial, usb3_map, utf16_vendor, utf16_model, data_path, dptx, embedded_link, tag}
use Rattle.entry.specs.Decode.{name_of, row_entry}
use Rattle.record.specs.Record.{row_is, tag_of, map_fields, payload_of, record_of}
use Rattle.record.proofs.PayloadLength.{payload_length}
use Rattle.record.specs.Step.{head_tag, head_in, payload_sizes, tagged_size, record_size}
use Rattle.record.proofs.RecordLaws.{head_bytes}
use Rattle.record.proofs.TextLaws.{name_length, text_length}
use Rattle.record.proofs.Known.{fits, counted}
use Rattle.record.proofs.Lengths.{record_length_lem}

-- ---- what is left behind the arms of a match on 0, 1, 2, ..

abbrev NoneBelow : ℕ → ℕ → Type 0
NoneBelow k zero = Unit {0}
NoneBelow k (suc n) = NoneBelow k n × (k ≡ n → ⊥)

pub from_none_below : (k n : ℕ) → NoneBelow k n → n ≤ k
from_none_below k zero h = omega arith
from_none_below k (suc n) h = omega (arith, from_none_below k n h.0, h.1)

-- ---- the three cases of a record's size

module _ (bs : List ℕ) where
  pub size_untagged : 18 < head_tag bs → record_size bs ≡ 0
  unfolding record_size
  size_untagged h = rw (lt-leb (head_tag bs) 18 h)

  module _ (t : head_tag bs ≤ 18) where
    pub size_whole : tagged_size (head_tag bs) bs ≤ length bs → record_size bs ≡ tagged_size (head_tag bs) bs
    unfolding record_size
    size_whole h = rw (le-leb (head_tag bs) 18 t, le-leb (tagged_size (head_tag bs) bs) (length bs) h)

    pub size_cut : length bs < tagged_size (head_tag bs) bs → record_size bs ≡ 0
    unfolding record_size
    size_cut h = rw (le-leb (head_tag bs) 18 t, lt-leb (tagged_size (head_tag bs) bs) (length bs) h)

  -- A record never reaches beyond the bytes.
  within : (t : Bool) (n m : ℕ) → leb n m ≡ t → cond t n 0 ≤ m
  within true n m e = leb-true n m e
  within false n m e = omega arith

  pub size_within : record_size bs ≤ length bs
  unfolding record_size
  size_within = go (leb (head_tag bs) 18)
    where
      go : (t : Bool) → cond t (cond (leb (tagged_size (head_tag bs) bs) (length bs)) (tagged_size (head_tag bs) bs) 0) 0 ≤ length bs
      go true = within _ (tagged_size (head_tag bs) bs) (length bs) refl
      go false = omega arith

-- ---- a record that was written

pub tag_most : (row : Row) → tag row ≤ 18
tag_most unknown = omega arith
tag_most adapter = omega arith
tag_most unused = omega arith
tag_most display_port = omega arith
tag_most lane = omega arith
tag_most pcie_up = omega arith
tag_most pcie_down = omega arith
tag_most generic = omega arith
tag_most ascii_vendor = omega arith
tag_most ascii_model = omega arith
tag_most tmu = omega arith
tag_most product = omega arith
tag_most serial = omega arith
tag_most usb3_map = omega arith
tag_most utf16_vendor = omega arith
tag_most utf16_model = omega arith
tag_most data_path = omega arith
tag_most dptx = omega arith
tag_most embedded_link = omega arith

-- the two numbers that share the head's third byte
weigh : {a b x y : ℕ} → a ≡ x → b ≡ y → a * 32 + b ≡ x * 32 + y
weigh p q = omega arith

offset_back : (offset L : ℕ) → offset < 8192 → offset / 32 % 256 * 32 + (offset % 32 * 8 + L / 32 % 8) / 8 % 32 ≡ offset
offset_back offset L h =
    let high : offset / 32 % 256 ≡ offset / 32 = omega arith in
    let low : (offset % 32 * 8 + L / 32 % 8) / 8 % 32 ≡ offset % 32 = omega arith in
    weigh high low ∙ div-add-mod' offset 32

length_back : (offset L : ℕ) → L < 256 → (offset % 32 * 8 + L / 32 % 8) % 8 * 32 + L % 32 * 8 / 8 % 32 ≡ L
length_back offset L h =
    let high : (offset % 32 * 8 + L / 32 % 8) % 8 ≡ L / 32 = omega arith in
    let low : L % 32 * 8 / 8 % 32 ≡ L % 32 = omega arith in
    weigh high low ∙ div-add-mod' L 32

module _ (offset : ℕ) (bs rest : List ℕ) where
  -- the record of `e`, and then the rest
  abbrev written : DromEntry → List ℕ
  written e = record_of offset bs e ++ rest

  -- its head's bytes
  spread : (e : DromEntry) → written e
      ≡ tag_of e ∷ (offset / 32 % 256) ∷ (offset % 32 * 8 + length bs / 32 % 8) ∷ (length bs % 32 * 8) ∷ (pack (payload_of bs e) ++ rest)
  unfolding record_of
  spread e = ap (λ (l : List ℕ). l ++ rest) (head_bytes (tag_of e) offset (length bs) (payload_of bs e) (omega (arith, tag_most (row_is e))))

  module _ (small : length bs < 256) where
    pub head_again : (e : DromEntry) → offset < 8192 → head_in (written e) ≡ record { tag = tag_of e; offset = offset; length = length bs }
    unfolding head_in
    head_again e h =
        let long : 4 ≤ length (written e) = rw (spread e) (omega arith) in
        rw (le-ltb (length (written e)) 4 long, spread e, offset_back offset (length bs) h, length_back offset (length bs) small)

    -- the byte in which a length is told: the payload's first, or its third behind a language
    first_byte : (e : DromEntry) (n : ℕ) (fs : List Field) → payload_of bs e ≡ n ∶ 8 ∷ fs → n < 256 → byte 4 (written e) ≡ n
    first_byte e n fs q h = rw (spread e, q, pack_front n fs h)

    third_byte : (e : DromEntry) (x n : ℕ) (fs : List Field) → payload_of bs e ≡ x ∶ 16 ∷ n ∶ 8 ∷ fs → n < 256 → byte 6 (written e) ≡ n
    third_byte e x n fs q h = rw (spread e, q, pack_run (x ∶ 16 ∷ n ∶ 8 ∷ fs)) (omega arith)

    name_told : (e : DromEntry) (n : ℕ) → payload_of bs e ≡ n ∶ 8 ∷ byte_fields (take n (drop 2 bs)) → n ≡ length (name_of bs) → 3 ≤ length bs
        → byte 4 (written e) ≡ n
    name_told e n q c h = first_byte e n (byte_fields (take n (drop 2 bs))) q (omega (arith, name_length bs (omega arith)))

    text_told : (e : DromEntry) (n : ℕ) → payload_of bs e ≡ n ∶ 8 ∷ byte_fields (utf16_text (drop 2 bs)) → n ≡ length (utf16_text (drop 2 bs))
        → byte 4 (written e) ≡ n
    text_told e n q c = first_byte e n (byte_fields (utf16_text (drop 2 bs))) q (omega (arith, text_length (drop 2 bs), length-drop 2 bs))

    size_told : (e : DromEntry) → row_entry (row_is e) bs ≡ Ok e → get_or (payload_sizes (written e)) (tag_of e) 0 ≡ payload_length bs e
    unfolding payload_of
    size_told Unknown x = refl
    size_told (Adapter d n) x = refl
    size_told (UnusedAdapter n) x = refl
    size_told (DisplayPortAdapter n v p) x = refl
    size_told (LaneAdapter f d n o) x = refl
    size_told (PcieUpAdapter n f d) x = refl
    size_told (PcieDownAdapter n f d) x = refl
    size_told (Generic k) x = rw (spread (Generic k)) (omega (arith, length_back offset (length bs) small))
    size_told (AsciiVendorName n) x = omega (arith, name_told (AsciiVendorName n) n refl (omega (arith, counted bs x)) (fits bs x))
    size_told (AsciiModelName n) x = omega (arith, name_told (AsciiModelName n) n refl (omega (arith, counted bs x)) (fits bs x))
    size_told (Tmu m r) x = refl
    size_told (ProductDescriptor u v p f t r) x = refl
    size_told (SerialNumber l n) x =
        omega (
          arith,
          third_byte (SerialNumber l n) l n (byte_fields (utf16_text (drop 4 bs))) refl
              (omega (arith, counted bs x, text_length (drop 4 bs), length-drop 4 bs)),
        )
    size_told (Usb3PortMapping n) x =
        omega (arith, first_byte (Usb3PortMapping n) n (map_fields (drop 2 bs)) refl (omega (arith, counted bs x)))
    size_told (Utf16VendorName n) x = omega (arith, text_told (Utf16VendorName n) n refl (omega (arith, counted bs x)))
    size_told (Utf16ModelName n) x = omega (arith, text_told (Utf16ModelName n) n refl (omega (arith, counted bs x)))
    size_told (SingleDataPath p) x = refl
    size_told (DptxRanking a m n o u) x = rw (spread (DptxRanking a m n o u), pack_run (payload_of bs (DptxRanking a m n o u)))
        (omega (arith, counted bs x))
    size_told (EmbeddedLink l) x = refl

    -- The size of a record that was written, whatever follows it.
    pub size_again : (e : DromEntry) → row_entry (row_is e) bs ≡ Ok e → record_size (written e) ≡ length (record_of offset bs e)
    unfolding tagged_size
    size_again e d =
        let t : head_tag (written e) ≡ tag_of e = rw (spread e) in
        let s : tagged_size (head_tag (written e)) (written e) ≡ length (record_of offset bs e) =
        rw t (omega (arith, size_told e d, record_length_lem bs offset e d)) in
        let h : head_tag (written e) ≤ 18 = omega (arith, tag_most (row_is e)) in
        size_whole (written e) h (omega (arith, length-append (record_of offset bs e) rest)) ∙ s
