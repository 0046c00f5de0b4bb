-- `record::pcie` meets its contract. The bytes are those of the fields.
-- Assumes nothing.
use Rattle.record.specs.Record.{payload_of}
use Rattle.record.proofs.RecordLaws.{pcie_bytes}
use Rattle.record.proofs.write.pcie.Goals as goal

pub returns : goal.returns
unfolding payload_of
returns c = rw pcie_bytes
