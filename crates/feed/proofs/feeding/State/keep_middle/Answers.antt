-- `keep_middle` meets its contract: its bytes lead where steps over them do, whatever the record buffer.
-- Assumes nothing.
use Prim.Native.Nat.{◌+◌, ◌≤◌, ◌<◌}
use mathlib.Core.List.{List}
use mathlib.Core.Path.{◌≡◌}
use native.Mathlib.Omega.{arith}
use lib.ListN.{length, get_or}
use borrow.Author.Rules.{rules}
use Rattle.std.specs.Prelude.{ℕ}
use Rattle.feed.specs.Feed.{run_in}
use Rattle.feed.proofs.AlongLaws.{middle_through}
use Rattle.feed.proofs.feeding.State.keep_middle.Goals as goal

pub returns-clause-through : goal.returns-clause-through
returns-clause-through c =
    let s = c.args.self.now in
    let piece = c.args.piece.now in
    let amid = c.requires.0 in
    let small : get_or s.pending 0 0 < 256 = search rules in
    let long : length s.pending ≡ 255 = search rules in
    let more : s.core.fill + c.min-n.result < c.from.result = omega (arith, amid.more, c.from.ensures, c.min-n.ensures) in
    let some : c.min-n.result ≤ length piece = omega (arith, c.min-n.ensures) in
    λ (buffer : List ℕ).
    middle_through (run_in s buffer) piece 255 _ _ _ _ amid.going amid.late amid.some c.from.ensures more some long (omega (arith, small, c.from.ensures)) c.put_all-self.ensures
