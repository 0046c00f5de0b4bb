-- `drom::parts::offset_from` meets its contract: a turn passes an entry, and where none stands there is no offset.
-- Assumes nothing.
use mathlib.Core.Path.{sym, ap, ◌∙◌}
use native.Mathlib.Omega.{arith}
use Rattle.entry.specs.Adapters.{kind_in}
use Rattle.drom.specs.Walk.{Walked}
use Rattle.drom.specs.Parts.{offset_in}
use Rattle.drom.proofs.WalkLaws.{step_none, step_on, walk_past}
use Rattle.drom.proofs.PartLaws.{offset_none, offset_here, offset_left}
use Rattle.drom.proofs.parts.offset_from.Goals as goal

pub returns-in_err-end-clause-place : goal.returns-in_err-end-clause-place
returns-in_err-end-clause-place c =
    let none_there = step_none _ _ c.loop-at.at c.loop-at-test.true c.in_err-end.ensures in
    rw c.from_residual.ensures (sym (offset_none c.loop-at.at c.loop-at.left none_there) ∙ c.loop-at.invariant.same)

pub returns-then-left-eq0-clause-place : goal.returns-then-left-eq0-clause-place
returns-then-left-eq0-clause-place c =
    let on = step_on _ _ _ c.loop-at-test.true _ c.in_ok-end.ensures in
    sym (offset_here on) ∙ ap (offset_in c.loop-at.at _) (sym c.if-left-eq0.true) ∙ c.loop-at.invariant.same

pub loop-at-smaller : goal.loop-at-smaller
loop-at-smaller c =
    let on = step_on _ _ _ c.loop-at-test.true _ c.in_ok-end.ensures in
    omega (arith, on.on, on.inside)

pub loop-at-preserved : goal.loop-at-preserved
loop-at-preserved c =
    let on = step_on _ _ _ c.loop-at-test.true _ c.in_ok-end.ensures in
    record { on = omega (arith, on.on); inside = on.inside; same = sym (offset_left on c.loop-at.left c.if-left-eq0.false) ∙ c.loop-at.invariant.same }

pub returns-clause-place : goal.returns-clause-place
returns-clause-place c =
    let past = walk_past (kind_in _) _ c.loop-at.at c.loop-at-test.false in
    sym (offset_none c.loop-at.at c.loop-at.left (ap (λ (w : Walked). w.entries) past)) ∙ c.loop-at.invariant.same
