-- `record::display_port` meets its contract. The bytes are those of the fields.
-- Assumes nothing.
use Rattle.record.specs.Record.{payload_of}
use Rattle.record.proofs.RecordLaws.{bit_of, six_bytes, adapter_bytes}
use Rattle.record.proofs.write.display_port.Goals as goal

pub returns : goal.returns
unfolding payload_of
returns c =
    let bit = bit_of c.args.valid c.from.ensures in
    rw (← bit.0, six_bytes, adapter_bytes c.from.result c.args.preferred bit.1)
