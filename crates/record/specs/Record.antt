-- Document 01, "Entries": the record of an entry. A record is a list of fields, most significant first: a head, and then the
-- payload of its row. `offset` is where the entry stands in the DROM, `bs` the entry's bytes, and L how many they are.
-- Assumes nothing.
use Rattle.std.specs.Prelude.{List, [], ◌∷◌, ◌++◌, ℕ, length, take, drop}
use Rattle.bits.specs.Bits.{bits, flag, twos}
use Rattle.bits.specs.Fields.{Field, ◌∶◌, zeros, z, zz, zzz, byte_fields, pack}
use Rattle.util.specs.Utf16.{utf16_text}
use Rattle.entry.specs.declared.parse.DromEntry.{DromEntry}
use Rattle.entry.specs.declared.parse.DromEntry.TheVariants.{Unknown, Adapter, UnusedAdapter, DisplayPortAdapter, LaneAdapter, PcieUpAdapter, PcieDownAdapter, Generic, AsciiVendorName, AsciiModelName, Tmu, ProductDescriptor, SerialNumber, Usb3PortMapping, Utf16VendorName, Utf16ModelName, SingleDataPath, DptxRanking, EmbeddedLink}
use Rattle.entry.specs.Rows.{Row, unknown, adapter, unused, display_port, lane, pcie_up, pcie_down, generic, ascii_vendor, ascii_model, tmu, product, serial, usb3_map, utf16_vendor, utf16_model, data_path, dptx, embedded_link, tag}

-- the row of each case of the enum, and so its tag
abbrev pub row_is : DromEntry → Row
row_is Unknown = unknown
row_is (Adapter disabled number) = adapter
row_is (UnusedAdapter number) = unused
row_is (DisplayPortAdapter number valid preferred) = display_port
row_is (LaneAdapter lane1 dual number other) = lane
row_is (PcieUpAdapter number function device) = pcie_up
row_is (PcieDownAdapter number function device) = pcie_down
row_is (Generic kind) = generic
row_is (AsciiVendorName n) = ascii_vendor
row_is (AsciiModelName n) = ascii_model
row_is (Tmu mode rate) = tmu
row_is (ProductDescriptor usb4 vendor item fw test revision) = product
row_is (SerialNumber language n) = serial
row_is (Usb3PortMapping count) = usb3_map
row_is (Utf16VendorName n) = utf16_vendor
row_is (Utf16ModelName n) = utf16_model
row_is (SingleDataPath preference) = data_path
row_is (DptxRanking number mh n order mu) = dptx
row_is (EmbeddedLink link) = embedded_link

abbrev pub tag_of : DromEntry → ℕ
tag_of e = tag (row_is e)

-- "A record's head is 32 bits, most significant first: tag 8, offset 13, L 8, three zeros."
abbrev pub head_of : ℕ → ℕ → ℕ → List Field
head_of tag offset L = tag ∶ 8 ∷ offset ∶ 13 ∷ L ∶ 8 ∷ zzz ∷ []

-- a USB3 map, "per whole three bytes m": m0 bits 3..0, m1 bits 4..0, m1 bits 6..5, m1 bit 7, m2 bits 5..0, m2 bit 7, five z
unfoldable pub map_fields : List ℕ → List Field
map_fields [] = []
map_fields (m0 ∷ []) = []
map_fields (m0 ∷ m1 ∷ []) = []
map_fields (m0 ∷ m1 ∷ m2 ∷ ms) =
    bits 3 0 m0 ∶ 4 ∷ bits 4 0 m1 ∶ 5 ∷ bits 6 5 m1 ∶ 2 ∷ bits 7 7 m1 ∶ 1 ∷ bits 5 0 m2 ∶ 6 ∷ bits 7 7 m2 ∶ 1 ∷ zeros 5 ∷ map_fields ms

-- ranks: "type 5, rank 3 (low five and high three bits of each byte ..)"
unfoldable pub rank_fields : List ℕ → List Field
rank_fields [] = []
rank_fields (b ∷ bs) = bits 4 0 b ∶ 5 ∷ bits 7 5 b ∶ 3 ∷ rank_fields bs

-- "Then the payload, packed the same way; z is a zero bit."
unfoldable pub payload_of : List ℕ → DromEntry → List Field
payload_of bs Unknown = []
payload_of bs (Adapter disabled number) = flag disabled ∶ 1 ∷ z ∷ number ∶ 6 ∷ []
payload_of bs (UnusedAdapter number) = zz ∷ number ∶ 6 ∷ []
payload_of bs (DisplayPortAdapter number valid preferred) = zz ∷ number ∶ 6 ∷ flag valid ∶ 1 ∷ z ∷ preferred ∶ 6 ∷ []
payload_of bs (LaneAdapter lane1 dual number other) = flag lane1 ∶ 1 ∷ flag dual ∶ 1 ∷ number ∶ 6 ∷ zz ∷ other ∶ 6 ∷ []
payload_of bs (PcieUpAdapter number function device) = number ∶ 6 ∷ function ∶ 3 ∷ device ∶ 5 ∷ zz ∷ []
payload_of bs (PcieDownAdapter number function device) = number ∶ 6 ∷ function ∶ 3 ∷ device ∶ 5 ∷ zz ∷ []
payload_of bs (Generic kind) = zz ∷ kind ∶ 6 ∷ byte_fields (drop 2 bs)
payload_of bs (AsciiVendorName n) = n ∶ 8 ∷ byte_fields (take n (drop 2 bs))
payload_of bs (AsciiModelName n) = n ∶ 8 ∷ byte_fields (take n (drop 2 bs))
payload_of bs (Tmu mode rate) = twos mode ∶ 8 ∷ rate ∶ 8 ∷ []
payload_of bs (ProductDescriptor usb4 vendor item fw test revision) =
    usb4.major ∶ 8 ∷ usb4.minor ∶ 8 ∷ vendor ∶ 16 ∷ item ∶ 16 ∷ fw.major ∶ 8 ∷ fw.minor ∶ 8 ∷ test ∶ 32 ∷ revision ∶ 8 ∷ []
payload_of bs (SerialNumber language n) = language ∶ 16 ∷ n ∶ 8 ∷ byte_fields (utf16_text (drop 4 bs))
payload_of bs (Usb3PortMapping count) = count ∶ 8 ∷ map_fields (drop 2 bs)
payload_of bs (Utf16VendorName n) = n ∶ 8 ∷ byte_fields (utf16_text (drop 2 bs))
payload_of bs (Utf16ModelName n) = n ∶ 8 ∷ byte_fields (utf16_text (drop 2 bs))
payload_of bs (SingleDataPath preference) = preference ∶ 8 ∷ []
payload_of bs (DptxRanking number mh n order mu) =
    number ∶ 5 ∷ flag mh ∶ 1 ∷ zz ∷ n ∶ 4 ∷ order ∶ 3 ∷ z ∷ zzz ∷ mu ∶ 5 ∷ rank_fields (take n (drop 5 bs))
payload_of bs (EmbeddedLink link) = zzz ∷ link ∶ 5 ∷ []

-- the record
unfoldable pub record_of : ℕ → List ℕ → DromEntry → List ℕ
record_of offset bs e = pack (head_of (tag_of e) offset (length bs) ++ payload_of bs e)
