-- `record::serial` meets its contract. The bytes are those of the fields.
-- Assumes nothing.
use borrow.Author.Rules.{rules}
use Rattle.bits.proofs.LawsFields.{pack_byte, pack_nil}
use Rattle.record.proofs.RecordLaws.{wide_be, wide_bytes}
use Rattle.record.proofs.write.serial.Goals as goal

pub returns : goal.returns
returns c =
    let a = c.args in
    rw (wide_be a.language (search rules) c.to_be_bytes-l.ensures, wide_bytes a.language _ (search rules), pack_byte, pack_nil)
