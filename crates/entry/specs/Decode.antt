-- Document 01, "Entries": the values of an entry, row by row, and why an entry is refused.
-- Assumes nothing.
use Rattle.std.specs.Prelude.{cond, Option, Some, None, Result, Ok, Err, List, ℕ, ◌+◌, ◌-◌, ◌*◌, ◌/◌, ◌%◌, ltb, eqb, ℤ, pos, negsuc, length, drop}
use Rattle.bits.specs.Bits.{byte, bits, bit, le2, le4}
use Rattle.util.specs.Utf16.{utf16_text}
use Rattle.util.specs.Utf8.{is_utf8}
use Rattle.entry.specs.Names.{has_zero, before_zero}
use Rattle.entry.specs.Rows.{Row, unknown, adapter, unused, display_port, lane, pcie_up, pcie_down, generic, ascii_vendor, ascii_model, tmu, product, serial, usb3_map, utf16_vendor, utf16_model, data_path, dptx, embedded_link, least, Text, no_text, name, utf16_from, text_in, row_of}
use Rattle.entry.specs.declared.parse.DromEntry.{DromEntry}
use Rattle.entry.specs.declared.parse.DromEntry.TheVariants.{Unknown, Adapter, UnusedAdapter, DisplayPortAdapter, LaneAdapter, PcieUpAdapter, PcieDownAdapter, Generic, AsciiVendorName, AsciiModelName, Tmu, ProductDescriptor, SerialNumber, Usb3PortMapping, Utf16VendorName, Utf16ModelName, SingleDataPath, DptxRanking, EmbeddedLink}
use Rattle.entry.specs.declared.refusal.Refusal.{Refusal}
use Rattle.entry.specs.declared.refusal.Refusal.TheVariants.{TooShort, NoZero, NotUtf8, OddUtf16}
use Rattle.entry.specs.Refusals.{answer_number}

-- "The TMU mode is a signed number, -1 for the bit pattern 3"
abbrev pub mode_of : ℕ → ℤ
mode_of pattern = cond (eqb pattern 3) (negsuc 0) (pos pattern)

-- "rate is 1 HiFi, 2 LowRes, else 0"
abbrev pub rate_of : ℕ → ℕ
rate_of pattern = cond (eqb pattern 3) 0 pattern

-- an adapter's number: bits 5..0 of the kind byte
abbrev pub number_of : List ℕ → ℕ
number_of bs = bits 5 0 (byte 1 bs)

-- a name's bytes
abbrev pub name_of : List ℕ → List ℕ
name_of bs = before_zero (drop 2 bs)

-- "device 5 (bits 4..3 high, 7..5 low)"
abbrev pub device_of : ℕ → ℕ
device_of b = bits 4 3 b * 8 + bits 7 5 b

-- the values of a row; texts and lists are counted, and their bytes stay in the entry
abbrev pub values_of : Row → List ℕ → DromEntry
values_of unknown bs = Unknown
values_of adapter bs = Adapter (bit 6 (byte 1 bs)) (number_of bs)
values_of unused bs = UnusedAdapter (number_of bs)
values_of display_port bs = DisplayPortAdapter (number_of bs) (bit 6 (byte 4 bs)) (bits 5 0 (byte 4 bs))
values_of lane bs = LaneAdapter (bit 4 (byte 2 bs)) (bit 7 (byte 2 bs)) (number_of bs) (bits 5 0 (byte 3 bs))
values_of pcie_up bs = PcieUpAdapter (number_of bs) (bits 2 0 (byte 2 bs)) (device_of (byte 2 bs))
values_of pcie_down bs = PcieDownAdapter (number_of bs) (bits 2 0 (byte 2 bs)) (device_of (byte 2 bs))
values_of generic bs = Generic (bits 5 0 (byte 1 bs))
values_of ascii_vendor bs = AsciiVendorName (length (name_of bs))
values_of ascii_model bs = AsciiModelName (length (name_of bs))
values_of tmu bs = Tmu (mode_of (bits 1 0 (byte 2 bs))) (rate_of (bits 3 2 (byte 2 bs)))
values_of product bs =
    ProductDescriptor (record { major = byte 3 bs; minor = byte 2 bs }) (le2 (byte 4 bs) (byte 5 bs)) (le2 (byte 6 bs) (byte 7 bs))
    (record { major = byte 9 bs; minor = byte 8 bs }) (le4 (byte 10 bs) (byte 11 bs) (byte 12 bs) (byte 13 bs)) (byte 10 bs)
values_of serial bs = SerialNumber (le2 (byte 2 bs) (byte 3 bs)) (length (utf16_text (drop 4 bs)))
values_of usb3_map bs = Usb3PortMapping ((length bs - 2) / 3)
values_of utf16_vendor bs = Utf16VendorName (length (utf16_text (drop 2 bs)))
values_of utf16_model bs = Utf16ModelName (length (utf16_text (drop 2 bs)))
values_of data_path bs = SingleDataPath (bits 1 0 (byte 3 bs))
values_of dptx bs =
    DptxRanking (bits 4 0 (byte 2 bs)) (bit 4 (byte 3 bs)) (bits 3 0 (byte 3 bs)) (bits 7 5 (byte 3 bs))
    (cond (bit 4 (byte 3 bs)) (bits 4 0 (byte 4 bs)) 0)
values_of embedded_link bs = EmbeddedLink (bits 4 0 (byte 2 bs))

-- "Numbers given back", those of an entry by itself
-- entry too short for its kind
abbrev pub too_short : ℕ
too_short = 8

-- ASCII name without a zero byte
abbrev pub no_zero : ℕ
no_zero = 9

-- name before that zero not UTF-8
abbrev pub not_utf8 : ℕ
not_utf8 = 10

-- UTF-16 part of odd length
abbrev pub odd_utf16 : ℕ
odd_utf16 = 11

-- what a name is refused for: 9, then 10
unfoldable pub name_refusal : List ℕ → Option Refusal
name_refusal bs = cond (has_zero (drop 2 bs)) (cond (is_utf8 (name_of bs)) None (Some NotUtf8)) (Some NoZero)

-- a UTF-16 part: 11
abbrev pub utf16_refusal : List ℕ → Option Refusal
utf16_refusal text = cond (eqb (length text % 2) 1) (Some OddUtf16) None

-- what a row's text asks
abbrev pub text_refusal : Text → List ℕ → Option Refusal
text_refusal no_text bs = None
text_refusal name bs = name_refusal bs
text_refusal (utf16_from i) bs = utf16_refusal (drop i bs)

-- a value, unless something is refused
abbrev pub unless_refused : {A : Type 0} → Option Refusal → A → Result A Refusal
unless_refused None a = Ok a
unless_refused (Some r) a = Err r

-- the entry of a row: 8 first, then what its text asks, then its values
unfoldable pub row_entry : Row → List ℕ → Result DromEntry Refusal
row_entry row bs = cond (ltb (length bs) (least row bs)) (Err TooShort) (unless_refused (text_refusal (text_in row) bs) (values_of row bs))

-- an entry, by the kind that is listed for its number
unfoldable pub decode_of : ℕ → List ℕ → Result DromEntry Refusal
decode_of kind bs = row_entry (row_of kind bs) bs

-- 0 for an entry, whose values are its own, and the refusal's number
abbrev pub decoded_number : Result DromEntry Refusal → ℕ
decoded_number d = answer_number d
