-- Document 01's bench examples marked *, one table with one statement: for an adapter list and a DROM, the number, the offset and the records.
-- Assumes nothing.
use mathlib.Core.Path.{◌≡◌, refl}
use mathlib.Core.List.{List, [], ◌∷◌, ◌++◌, flatten}
use Prim.Native.Nat.{ℕ, ◌+◌}
use lib.ListN.{length, replicate}
use Rattle.bits.specs.Fields.{pack, bits_of, all_bits, gather, byte_fields}
use Rattle.util.specs.Utf16.{is_pair, alone, decode, kept, kept_of, text_of}
use Rattle.entry.specs.Adapters.{kind_in}
use Rattle.entry.specs.Names.{has_zero, before_zero}
use Rattle.entry.specs.Rows.{row_of}
use Rattle.entry.specs.Decode.{name_refusal, row_entry, decode_of}
use Rattle.record.specs.Record.{payload_of, record_of}
use Rattle.drom.specs.Walk.{front_of, walk_by, walk_of}
use Rattle.drom.specs.Report.{report_of, records_of}

pub record Answer : Type 0 where
  pub number : ℕ
  pub offset : ℕ
  pub records : List ℕ

pub record Example : Type 0 where
  pub list : List ℕ
  pub drom : List ℕ
  pub answer : Answer

-- "DROMs here have version 3, other header bytes zero and the right length; only the body is shown."
abbrev headed : ℕ → List ℕ → List ℕ
headed version rest = replicate 13 0 ++ (version ∷ (length rest + 3) ∷ 0 ∷ rest)

abbrev body : List ℕ → List ℕ
body bs = headed 3 bs

abbrev accepted : List ℕ → Answer
accepted records = record { number = 0; offset = 0; records = records }

abbrev refused : ℕ → ℕ → Answer
refused number offset = record { number = number; offset = offset; records = [] }

abbrev example : List ℕ → Answer → Example
example drom answer = record { list = []; drom = drom; answer = answer }

unfoldable pub examples : List Example
examples =
    example (replicate 15 0) (refused 1 0)
    ∷ example (body []) (accepted [])
    ∷ example (headed 2 (replicate 5 0)) (refused 3 0)
    ∷ example (body (0x00 ∷ [])) (refused 6 16)
    ∷ example (body (0x01 ∷ [])) (accepted (0x00 ∷ 0x00 ∷ 0x80 ∷ 0x08 ∷ []))
    ∷ example (body (0x03 ∷ 0x08 ∷ [])) (refused 7 16)
    ∷ example (body (0x02 ∷ 0x08 ∷ [])) (refused 8 16)
    ∷ example (body (0x03 ∷ 0x08 ∷ 0x06 ∷ [])) (accepted (0x0A ∷ 0x00 ∷ 0x80 ∷ 0x18 ∷ 0x02 ∷ 0x01 ∷ []))
    ∷ example (body (0x03 ∷ 0x08 ∷ 0x03 ∷ [])) (accepted (0x0A ∷ 0x00 ∷ 0x80 ∷ 0x18 ∷ 0xFF ∷ 0x00 ∷ []))
    ∷ example (body (0x03 ∷ 0x01 ∷ 0x41 ∷ [])) (refused 9 16)
    ∷ example (body (0x03 ∷ 0x0C ∷ 0x41 ∷ [])) (refused 11 16)
    -- text ".A"
    ∷ example (body (0x06 ∷ 0x0C ∷ 0x00 ∷ 0xD8 ∷ 0x41 ∷ 0x00 ∷ [])) (accepted (0x0E ∷ 0x00 ∷ 0x80 ∷ 0x30 ∷ 0x02 ∷ 0x2E ∷ 0x41 ∷ []))
    -- adapter 5 of kind 5: function 1, device 31
    ∷ record {
      list = 5 ∷ 5 ∷ [];
      drom = body (0x03 ∷ 0x85 ∷ 0xF9 ∷ []);
      answer = accepted (0x06 ∷ 0x00 ∷ 0x80 ∷ 0x18 ∷ 0x14 ∷ 0xFC ∷ []);
    }
    ∷ []

-- what the definitions answer, and what document 01 says
unfoldable pub answered : List Example → List Answer
answered [] = []
answered (x ∷ xs) =
    record {
      number = (report_of x.list x.drom 16368).number;
      offset = (report_of x.list x.drom 16368).offset;
      records = records_of x.list x.drom 16368;
    }
    ∷ answered xs

unfoldable pub stated : List Example → List Answer
stated [] = []
stated (x ∷ xs) = x.answer ∷ stated xs

pub examples_hold : answered examples ≡ stated examples
unfolding answered stated examples report_of records_of walk_of walk_by front_of decode_of row_of row_entry name_refusal has_zero before_zero kind_in
    payload_of record_of pack bits_of all_bits gather byte_fields is_pair alone decode kept kept_of text_of flatten
examples_hold = refl
