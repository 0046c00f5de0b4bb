-- `take_entries` meets its contract: an entry that the piece has whole goes along, one that is refused stops, and room is never wanting.
-- Assumes nothing.
use mathlib.Core.Path.{◌≡◌, sym, ap, ◌∙◌}
use Prim.Native.Nat.{ℕ, ◌+◌, ◌-◌, ◌<◌, ◌≤◌}
use native.Mathlib.Omega.{arith}
use mathlib.Core.List.{List}
use lib.ListN.{length, get_or, take, drop}
use Rattle.feed.specs.Feed.{run_in}
use Rattle.feed.proofs.AlongLaws.{Whole, along_through, through_none, along_start, unwritten, turned}
use borrow.Author.Rules.{rules}
use Rattle.feed.proofs.feeding.State.take_entries.Goals as goal

-- the entry that stands at a place, of the length that is read there
stands : (piece : List ℕ) (i n : ℕ) → n ≡ get_or piece i 0 → get_or piece i 0 < 256 → (0 < get_or piece i 0) × (i + get_or piece i 0 ≤ length piece)
    → Whole piece i n (take (i + n - i) (drop i piece))
stands piece i n e small found =
    let long : i + n - i ≡ n = omega arith in
    record { here = e; some = omega arith; byte = omega arith; whole = omega arith; cut = ap (λ (j : ℕ). take j (drop i piece)) long }

pub returns-then-self-lt16 : goal.returns-then-self-lt16
returns-then-self-lt16 c = through_none (run_in c.args.self.now c.args.records.now) c.args.piece.now

pub loop-i-init : goal.loop-i-init
loop-i-init c =
    along_start (run_in c.args.self.now c.args.records.now) c.args.piece.now c.requires.0 c.requires.1 c.requires.2
    (omega arith) (omega (arith, c.body_start.ensures, c.if-self-body_start.false)) c.requires.3

pub overflow_add-self-in-loop-i-2 : goal.overflow_add-self-in-loop-i-2
overflow_add-self-in-loop-i-2 c =
    let l = c.loop-i in
    let entry = turned (run_in c.args.self.now c.args.records.now) c.args.piece.now (run_in l.self l.records) l.i l.invariant _ _ _ (stands c.args.piece.now l.i _ c.from-l.ensures (c.type_inv.piece l.i).fits (c.has_whole.ensures c.if-has_whole.true)) in
    let small = (entry _ _ _ _ c.kind_for-kind.ensures (search rules) c.write_entry.ensures.buffer (sym c.write_entry.ensures.answer ∙ c.in-Ok.is) c.keep_whole-self.ensures).0 in
    omega (arith, small, l.invariant.room, l.invariant.small, l.invariant.left, l.invariant.taken, (c.has_whole.ensures c.if-has_whole.true).1, c.from-l.ensures)

pub loop-i-preserved : goal.loop-i-preserved
loop-i-preserved c =
    let l = c.loop-i in
    let entry = turned (run_in c.args.self.now c.args.records.now) c.args.piece.now (run_in l.self l.records) l.i l.invariant _ _ _ (stands c.args.piece.now l.i _ c.from-l.ensures (c.type_inv.piece l.i).fits (c.has_whole.ensures c.if-has_whole.true)) in
    (entry _ _ _ _ c.kind_for-kind.ensures (search rules) c.write_entry.ensures.buffer (sym c.write_entry.ensures.answer ∙ c.in-Ok.is) c.keep_whole-self.ensures).1

pub returns-in_default : goal.returns-in_default
returns-in_default c =
    let l = c.loop-i in
    let entry = unwritten (run_in c.args.self.now c.args.records.now) c.args.piece.now (run_in l.self l.records) l.i l.invariant _ _ _ (stands c.args.piece.now l.i _ c.from-l.ensures (c.type_inv.piece l.i).fits (c.has_whole.ensures c.if-has_whole.true)) in
    rw (entry _ _ c.write_entry.ensures.buffer (sym c.write_entry.ensures.answer ∙ c.in_default.is)) (along_through _ _ _ _ l.invariant)
