-- `record::embedded_link` meets its contract. The byte is that of the fields.
-- Assumes nothing.
use Rattle.record.specs.Record.{payload_of}
use Rattle.record.proofs.RecordLaws.{link_bytes}
use Rattle.record.proofs.write.embedded_link.Goals as goal

pub returns : goal.returns
unfolding payload_of
returns c = rw link_bytes
