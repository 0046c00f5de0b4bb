-- `drom::parts::nth_entry` meets its contract: where there is an entry, as many bytes as the first says stand at its offset.
-- Assumes nothing.
use mathlib.Core.Path.{◌≡◌, refl, sym}
use Prim.Native.Nat.{◌+◌, ◌-◌}
use native.Mathlib.Omega.{arith}
use lib.ListN.{get_or}
use Rattle.drom.proofs.PartLaws.{entry_none, entry_stands}
use Rattle.drom.proofs.parts.nth_entry.Goals as goal

pub returns-in_default : goal.returns-in_default
returns-in_default c = sym (entry_none c.args.list.now c.args.drom.now c.args.n 0 c.in_default.ensures.place refl)

pub bounds-drom-at : goal.bounds-drom-at
bounds-drom-at c = (entry_stands c.args.list.now c.args.drom.now c.args.n c.in-Some.at c.in-Some.ensures.place (λ z. omega (arith, c.in-Some.ensures.some))).before

pub slice_bounds-result-end-2 : goal.slice_bounds-result-end-2
slice_bounds-result-end-2 c =
    let stands = entry_stands c.args.list.now c.args.drom.now c.args.n c.in-Some.at c.in-Some.ensures.place (λ z. omega (arith, c.in-Some.ensures.some)) in
    omega (arith, c.from.ensures, stands.inside)

pub returns : goal.returns
returns c =
    let stands = entry_stands c.args.list.now c.args.drom.now c.args.n c.in-Some.at c.in-Some.ensures.place (λ z. omega (arith, c.in-Some.ensures.some)) in
    let long : c.in-Some.at + c.from.result - c.in-Some.at ≡ get_or c.args.drom.now c.in-Some.at 0 = omega (arith, c.from.ensures) in
    rw long (sym stands.is)
