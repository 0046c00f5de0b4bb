-- Document 01, "Numbers given back": the report of a whole DROM, for a list, the DROM's bytes and the size of the record buffer lent;
-- and what the buffer is then.
-- Assumes nothing.
use Rattle.std.specs.Prelude.{Bool, false, cond, ℕ, eqb, length, drop}
use mathlib.Core.List.{List, [], ◌++◌, flatten}
use Rattle.bits.specs.Front.{onto}
use Rattle.entry.specs.Adapters.{kind_in}
use Rattle.drom.specs.Numbers.{first_of}
use Rattle.drom.specs.Header.{body_start, crc32_right, open_tests, header_tests}
use Rattle.drom.specs.HeaderValues.{values_in}
use Rattle.drom.specs.Walk.{Walked, walk_of}
use Rattle.drom.specs.declared.header.HeaderValues.{HeaderValues}
use Rattle.drom.specs.declared.reader.Report.{Report}

-- "Order for a whole DROM: 5, 4, 1, 2, 3, then entry by entry ..": the number before the entries, or 0
abbrev pub refusal_of : List ℕ → List ℕ → ℕ → ℕ
refusal_of list drom room = first_of (open_tests list (length drom) room ++ header_tests (length drom) drom)

-- "For 1 to 5, 13 and 18 all but the number is zero or no."
abbrev pub refused_report : ℕ → Report
refused_report n =
    record {
      number = n;
      offset = 0;
      version = 0;
      length = 0;
      start = 0;
      crc32 = 0;
      crc32good = false;
      crc8 = 0;
      uuid = 0;
      crc8good = false;
      records = 0;
      bytes = 0;
    }

-- the report of an accepted header's values, CRC32's verdict, a refusal's number and offset, and how many records and record bytes there are
abbrev pub report_with : HeaderValues → Bool → ℕ → ℕ → ℕ → ℕ → Report
report_with h crc32good number offset records bytes =
    record {
      number = number;
      offset = offset;
      version = h.version;
      length = h.length;
      start = h.start;
      crc32 = h.crc32;
      crc32good = crc32good;
      crc8 = h.crc8;
      uuid = h.uuid;
      crc8good = h.crc8good;
      records = records;
      bytes = bytes;
    }

-- "For 6 to 11 the header values and verdicts are reported, and the earlier records stay and are counted."
abbrev pub walked_report : List ℕ → Walked → Report
walked_report drom walked =
    report_with (values_in drom) (crc32_right drom) walked.number walked.offset (length walked.records) (length (flatten walked.records))

-- the walk of a DROM whose header is accepted
abbrev pub walk_in : (ℕ → ℕ) → List ℕ → Walked
walk_in kinds drom = walk_of kinds (body_start drom) (drop (body_start drom) drom)

unfoldable pub report_of : List ℕ → List ℕ → ℕ → Report
report_of list drom room =
    cond (eqb (refusal_of list drom room) 0) (walked_report drom (walk_in (kind_in list) drom)) (refused_report (refusal_of list drom room))

-- the records that a reading writes
unfoldable pub records_of : List ℕ → List ℕ → ℕ → List ℕ
records_of list drom room = cond (eqb (refusal_of list drom room) 0) (flatten (walk_in (kind_in list) drom).records) []

-- the buffer: records at its front, every other byte as lent
abbrev pub leaves_of : List ℕ → List ℕ → List ℕ → List ℕ
leaves_of list drom buffer = onto (records_of list drom (length buffer)) buffer
