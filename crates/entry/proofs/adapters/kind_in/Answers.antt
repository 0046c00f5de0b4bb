-- `entry::adapters::kind_in` meets its contract: a turn passes an adapter of another number.
-- Assumes nothing.
use mathlib.Core.Path.{sym, ◌∙◌}
use Prim.Native.Nat.{◌+◌, ◌<◌, ◌≤◌}
use native.Mathlib.Omega.{arith}
use lib.ListN.{length}
use borrow.Author.Rules.{rules}
use Rattle.entry.proofs.AdapterLaws.{found, passed, none}
use Rattle.entry.proofs.adapters.kind_in.Goals as goal

pub loop-i-preserved : goal.loop-i-preserved
loop-i-preserved c =
    let h : c.loop-i.i + 1 < length c.args.list.now = omega arith in
    (search rules, passed _ _ _ h c.if-list-i.false ∙ c.loop-i.invariant.1)

pub returns-then-list-i-lt2 : goal.returns-then-list-i-lt2
returns-then-list-i-lt2 c =
    let h : length c.args.list.now ≤ c.loop-i.i + 1 = omega arith in
    sym (none _ c.args.number _ h) ∙ c.loop-i.invariant.1

pub returns-then-list-i : goal.returns-then-list-i
returns-then-list-i c =
    let h : c.loop-i.i + 1 < length c.args.list.now = omega arith in
    sym (found _ _ _ h c.if-list-i.true) ∙ c.loop-i.invariant.1
