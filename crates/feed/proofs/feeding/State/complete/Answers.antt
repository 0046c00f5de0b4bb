-- `complete` meets its contract: the record stands behind the others, or the entry's refusal is told.
-- Assumes nothing.
use mathlib.Core.Path.{◌≡◌, sym, ◌∙◌}
use Prim.Native.Nat.{◌+◌, ◌*◌, ◌≤◌}
use native.Mathlib.Omega.{arith}
use borrow.Author.Rules.{rules}
use lib.ListN.{length}
use lib.Seq.{length-take-le}
use Rattle.feed.specs.Run.{Run, pending_entry}
use Rattle.feed.specs.Feed.{run_in}
use Rattle.feed.proofs.EndLaws.{written_record, written_refused}
use Rattle.feed.proofs.feeding.State.complete.Goals as goal

pub overflow_add-self-in-Ok : goal.overflow_add-self-in-Ok
overflow_add-self-in-Ok c =
    let r : Run = run_in c.args.self.now c.args.records.now in
    let size : length (pending_entry r) ≡ r.core.fill + 1 = length-take-le (r.core.fill + 1) r.pending (search rules) in
    let room : r.core.written + 4 * length (pending_entry r) ≤ length r.buffer = omega (arith, c.requires.room) in
    let small = (written_record r _ _ c.kind_for-kind.ensures room c.write_by_row.ensures.buffer _ (sym c.write_by_row.ensures.answer ∙ c.in-Ok.is)).0 in
    omega (arith, small, size, c.requires.filling, c.requires.small)

pub returns-in-Ok : goal.returns-in-Ok
returns-in-Ok c =
    let r : Run = run_in c.args.self.now c.args.records.now in
    let size : length (pending_entry r) ≡ r.core.fill + 1 = length-take-le (r.core.fill + 1) r.pending (search rules) in
    let room : r.core.written + 4 * length (pending_entry r) ≤ length r.buffer = omega (arith, c.requires.room) in
    sym (written_record r _ _ c.kind_for-kind.ensures room c.write_by_row.ensures.buffer _ (sym c.write_by_row.ensures.answer ∙ c.in-Ok.is)).1

pub returns-in-Err : goal.returns-in-Err
returns-in-Err c =
    let r : Run = run_in c.args.self.now c.args.records.now in
    let size : length (pending_entry r) ≡ r.core.fill + 1 = length-take-le (r.core.fill + 1) r.pending (search rules) in
    let room : r.core.written + 4 * length (pending_entry r) ≤ length r.buffer = omega (arith, c.requires.room) in
    rw c.refuse.ensures (sym (written_refused r _ _ c.kind_for-kind.ensures room c.write_by_row.ensures.buffer _ (sym c.write_by_row.ensures.answer ∙ c.in-Err.is)))
