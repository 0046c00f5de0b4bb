-- How many bytes the payload of an entry has, for each case of the enum (`record_length_lem`, proofs/Lengths.antt). `bs` is the entry's bytes.
-- Assumes nothing.
use mathlib.Core.List.{List}
use Prim.Native.Nat.{ℕ, ◌+◌, ◌-◌, ◌*◌}
use lib.ListN.{length}
use Rattle.entry.specs.declared.parse.DromEntry.{DromEntry}
use Rattle.entry.specs.declared.parse.DromEntry.TheVariants.{Unknown, Adapter, UnusedAdapter, DisplayPortAdapter, LaneAdapter, PcieUpAdapter, PcieDownAdapter, Generic, AsciiVendorName, AsciiModelName, Tmu, ProductDescriptor, SerialNumber, Usb3PortMapping, Utf16VendorName, Utf16ModelName, SingleDataPath, DptxRanking, EmbeddedLink}

abbrev pub payload_length : List ℕ → DromEntry → ℕ
payload_length bs Unknown = 0
payload_length bs (Adapter disabled number) = 1
payload_length bs (UnusedAdapter number) = 1
payload_length bs (DisplayPortAdapter number valid preferred) = 2
payload_length bs (LaneAdapter lane1 dual number other) = 2
payload_length bs (PcieUpAdapter number function device) = 2
payload_length bs (PcieDownAdapter number function device) = 2
payload_length bs (Generic kind) = length bs - 1
payload_length bs (AsciiVendorName n) = 1 + n
payload_length bs (AsciiModelName n) = 1 + n
payload_length bs (Tmu mode rate) = 2
payload_length bs (ProductDescriptor usb4 vendor product fw test revision) = 13
payload_length bs (SerialNumber language n) = 3 + n
payload_length bs (Usb3PortMapping count) = 1 + 3 * count
payload_length bs (Utf16VendorName n) = 1 + n
payload_length bs (Utf16ModelName n) = 1 + n
payload_length bs (SingleDataPath preference) = 1
payload_length bs (DptxRanking number mh n order mu) = 3 + n
payload_length bs (EmbeddedLink link) = 1
