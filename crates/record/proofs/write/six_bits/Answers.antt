-- `record::six_bits` meets its contract. The byte is that of the fields.
-- Assumes nothing.
use mathlib.Core.List.{[]}
use Rattle.bits.proofs.LawsFields.{pack_nil}
use Rattle.record.proofs.RecordLaws.{six_bytes}
use Rattle.record.proofs.write.six_bits.Goals as goal

pub returns : goal.returns
returns c = rw (six_bytes c.args.number [], pack_nil)
