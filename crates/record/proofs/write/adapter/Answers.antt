-- `record::adapter` meets its contract. The byte is that of the fields.
-- Assumes nothing.
use Rattle.record.specs.Record.{payload_of}
use Rattle.record.proofs.RecordLaws.{bit_of, adapter_bytes}
use Rattle.record.proofs.write.adapter.Goals as goal

pub returns : goal.returns
unfolding payload_of
returns c =
    let bit = bit_of c.args.disabled c.from.ensures in
    rw (← bit.0, adapter_bytes c.from.result c.args.number bit.1)
