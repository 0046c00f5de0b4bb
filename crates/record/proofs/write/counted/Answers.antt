-- `record::counted` meets its contract. The byte is that of the field.
-- Assumes nothing.
use Rattle.bits.proofs.LawsFields.{pack_byte, pack_nil}
use Rattle.record.proofs.write.counted.Goals as goal

pub returns : goal.returns
returns c = rw (pack_byte, pack_nil)
