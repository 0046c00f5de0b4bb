-- `record::write_by_row` meets its contract. It follows the definitions: no room, a record, or a refusal.
-- Assumes nothing.
use mathlib.Core.Path.{refl, sym, ap}
use native.Mathlib.Omega.{arith}
use borrow.Author.Tests.{lt-ltb, le-ltb}
use Rattle.std.specs.Prelude.{Ok}
use Rattle.record.specs.Write.{write_answer, write_leaves}
use Rattle.record.proofs.Known.{decode_row}
use Rattle.record.proofs.write.write_by_row.Goals as goal

pub returns-then-out-bytes : goal.returns-then-out-bytes
unfolding write_answer write_leaves
returns-then-out-bytes c = rw (lt-ltb _ _ c.if-out-bytes.true) record { answer = refl; buffer = refl }

pub put_record-requires : goal.put_record-requires
put_record-requires c =
    let a = c.args in
    record { decodes = decode_row a.kind a.bytes.now _ (sym c.in-Ok.ensures); room = omega arith }

pub returns-in-Ok : goal.returns-in-Ok
unfolding write_answer write_leaves
returns-in-Ok c =
    let wrote = c.put_record.ensures in
    rw (le-ltb _ _ c.if-out-bytes.false, sym c.in-Ok.ensures) record { answer = ap Ok wrote.counts; buffer = wrote.holds }

pub returns-in-Err : goal.returns-in-Err
unfolding write_answer write_leaves
returns-in-Err c = rw (le-ltb _ _ c.if-out-bytes.false, sym c.in-Err.ensures) record { answer = refl; buffer = refl }
