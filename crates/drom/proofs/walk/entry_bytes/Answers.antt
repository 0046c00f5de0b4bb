-- `drom::walk::entry_bytes` meets its contract: 6, then 7, and else as many bytes as the first says stand there.
-- Assumes nothing.
use mathlib.Core.Path.{◌≡◌, refl}
use Prim.Native.Nat.{◌+◌, ◌-◌, ◌≤◌}
use native.Mathlib.Omega.{arith}
use lib.ListN.{length, get_or, drop, length-drop}
use lib.Seq.{length-take-le}
use Rattle.drom.specs.Walk.{piece_at}
use Rattle.drom.specs.Walking.{StandsAt}
use Rattle.drom.proofs.WalkLaws.{front_zero, front_past, front_whole}
use Rattle.drom.proofs.walk.entry_bytes.Goals as goal

pub returns-then-n-eq0 : goal.returns-then-n-eq0
returns-then-n-eq0 c kinds = front_zero kinds _ _ (omega (arith, c.if-n-eq0.true, c.from-n.ensures))

pub returns-then-drom-at : goal.returns-then-drom-at
returns-then-drom-at c kinds =
    let at = c.args.at in
    let drom = c.args.drom.now in
    front_past kinds (get_or drom at 0) (drop at drom) (λ z. omega (arith, c.if-n-eq0.false, c.from-n.ensures)) (omega (arith, c.from-n.ensures, length-drop at drom))

pub returns : goal.returns
returns c =
    let at = c.args.at in
    let drom = c.args.drom.now in
    let n = get_or drom at 0 in
    let whole : n ≤ length (drop at drom) = omega (arith, c.from-n.ensures, length-drop at drom) in
    let size : length (piece_at drom at) ≡ n = length-take-le n (drop at drom) whole in
    let cut : at + c.from-n.result - at ≡ n = omega (arith, c.from-n.ensures) in
    let stands : StandsAt drom at (piece_at drom at) =
    record { is = refl; size = size; inside = omega (arith, size, c.from-n.ensures); front = λ kinds. front_whole kinds n (drop at drom) (λ z. omega (arith, c.if-n-eq0.false, c.from-n.ensures)) whole } in
    rw cut stands
