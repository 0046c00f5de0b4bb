-- `record::write_entry` meets its contract. An entry of one byte is decoded to no values, and its record is its head.
-- Assumes nothing.
use mathlib.Core.Path.{refl, ap}
use Prim.Native.Nat.{◌/◌}
use native.Mathlib.Omega.{arith}
use lib.ListN.{length}
use borrow.Author.Tests.{lt-ltb, le-ltb}
use Rattle.std.specs.Prelude.{Ok}
use Rattle.bits.proofs.LawsFront.{fitted}
use Rattle.record.specs.Write.{write_answer, write_leaves}
use Rattle.record.proofs.Known.{decode_one, record_one}
use Rattle.record.proofs.RecordLaws.{head_length_lem}
use Rattle.record.proofs.write.write_entry.Goals as goal

pub returns-then-out-lt4 : goal.returns-then-out-lt4
unfolding write_answer write_leaves
returns-then-out-lt4 c =
    let a = c.args in
    rw (lt-ltb (length a.out.now / 4) (length a.bytes.now) (omega (arith, c.if-bytes-ne1.false, c.if-out-lt4.true))) record { answer = refl; buffer = refl }

pub returns : goal.returns
unfolding write_answer write_leaves
returns c =
    let a = c.args in
    let bs = a.bytes.now in
    let wrote = fitted (rw c.head.ensures at c.put.ensures) (omega (arith, head_length_lem 0 a.offset 1, c.if-out-lt4.false)) in
    rw (le-ltb (length a.out.now / 4) (length bs) (omega (arith, c.if-bytes-ne1.false, c.if-out-lt4.false)), decode_one bs c.if-bytes-ne1.false a.kind, record_one bs c.if-bytes-ne1.false a.offset)
    record { answer = ap Ok wrote.counts; buffer = wrote.holds }
