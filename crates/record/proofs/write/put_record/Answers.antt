-- `record::put_record` meets its contract. The head is four bytes, and the payload follows it.
-- Assumes nothing.
use mathlib.Core.Path.{sym}
use native.Mathlib.Omega.{arith}
use lib.ListN.{length}
use Rattle.bits.proofs.LawsFront.{fitted, follows}
use Rattle.record.specs.Record.{tag_of, payload_of, record_of}
use Rattle.record.proofs.Lengths.{payload_room}
use Rattle.record.proofs.RecordLaws.{head_append, head_length_lem}
use Rattle.record.proofs.write.put_record.Goals as goal

pub slice_bounds-put_payload-count : goal.slice_bounds-put_payload-count
slice_bounds-put_payload-count c = omega (arith, payload_room c.args.bytes.now c.args.e c.requires.decodes)

pub slice_bounds-put_payload-start : goal.slice_bounds-put_payload-start
slice_bounds-put_payload-start c = omega (arith, payload_room c.args.bytes.now c.args.e c.requires.decodes)

pub returns : goal.returns
unfolding record_of
returns c =
    let a = c.args in
    let bs = a.bytes.now in
    let tag = c.tag in
    let long = head_length_lem tag.result a.offset (length bs) in
    let head = fitted (rw c.head.ensures at c.put.ensures) (omega (arith, long, payload_room bs a.e c.requires.decodes)) in
    rw (head_append (tag_of a.e) a.offset (length bs) (payload_of bs a.e), ← tag.ensures)
    (follows 4 (sym long) head c.put_payload.ensures)
