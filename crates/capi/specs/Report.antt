-- A report in 96 bytes: twelve numbers of eight bytes, least significant first.
-- Assumes nothing.
use Rattle.std.specs.Prelude.{List, [], ◌∷◌, ℕ}
use Rattle.bits.specs.Bits.{flag}
use Rattle.drom.specs.declared.reader.Report.{Report}
use Rattle.capi.specs.Bytes.{numbers_bytes}

abbrev pub report_size : ℕ
report_size = 96

-- the numbers, in document 01's order; yes and no are 1 and 0
abbrev pub report_numbers : Report → List ℕ
report_numbers r =
    r.number
    ∷ r.offset
    ∷ r.version
    ∷ r.length
    ∷ r.start
    ∷ r.crc32
    ∷ flag r.crc32good
    ∷ r.crc8
    ∷ r.uuid
    ∷ flag r.crc8good
    ∷ r.records
    ∷ r.bytes
    ∷ []

abbrev pub report_bytes : Report → List ℕ
report_bytes r = numbers_bytes (report_numbers r)
