-- `record::lane` meets its contract. The bytes are those of the fields.
-- Assumes nothing.
use Rattle.record.specs.Record.{payload_of}
use Rattle.record.proofs.RecordLaws.{bit_of, lane_bytes}
use Rattle.record.proofs.write.lane.Goals as goal

pub returns : goal.returns
unfolding payload_of
returns c =
    let a = c.args in
    let first = bit_of a.first c.from.ensures in
    let dual = bit_of a.dual c.from-2.ensures in
    rw (← first.0, ← dual.0, lane_bytes c.from.result c.from-2.result a.number a.other first.1 dual.1)
