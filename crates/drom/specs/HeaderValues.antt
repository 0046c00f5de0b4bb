-- Document 01, "Header": its values as they are reported, which the first 16 bytes tell. "Only TBT3 has CRC8 and UUID; otherwise they are
-- reported absent (0)".
-- Assumes nothing.
use Rattle.std.specs.Prelude.{false, cond, List, ℕ, ltb, length}
use Rattle.drom.specs.Header.{crc8_in, uuid_in, crc32_in, version_in, length_in, is_tbt3, body_start, crc8_right}
use Rattle.drom.specs.declared.header.HeaderValues.{HeaderValues}

abbrev pub no_values : HeaderValues
no_values = record { version = 0; length = 0; start = 0; crc32 = 0; crc8 = 0; uuid = 0; crc8good = false }

abbrev pub values_in : List ℕ → HeaderValues
values_in bytes =
    record {
      version = version_in bytes;
      length = length_in bytes;
      start = body_start bytes;
      crc32 = crc32_in bytes;
      crc8 = cond (is_tbt3 bytes) (crc8_in bytes) 0;
      uuid = cond (is_tbt3 bytes) (uuid_in bytes) 0;
      crc8good = crc8_right bytes;
    }

-- fewer than 16 bytes have none
abbrev pub header_values : List ℕ → HeaderValues
header_values bytes = cond (ltb (length bytes) 16) no_values (values_in bytes)
