-- `record::dptx` meets its contract. The three bytes are those of the fields.
-- Assumes nothing.
use mathlib.Core.List.{[]}
use Rattle.bits.proofs.LawsFields.{pack_nil}
use Rattle.record.proofs.RecordLaws.{bit_of, dptx_bytes}
use Rattle.record.proofs.write.dptx.Goals as goal

pub returns : goal.returns
returns c =
    let a = c.args in
    let bit = bit_of a.mh c.from.ensures in
    rw (← bit.0, dptx_bytes a.number c.from.result a.n a.order a.mu [] bit.1, pack_nil)
