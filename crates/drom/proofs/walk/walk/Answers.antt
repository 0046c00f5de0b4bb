-- `drom::walk::walk` meets its contract: the laws of `Going` at each turn and each way out.
-- Assumes nothing.
use Rattle.drom.proofs.WalkTurns.{going_on}
use mathlib.Core.Path.{sym, ◌∙◌}
use native.Mathlib.Omega.{arith}
use Rattle.drom.proofs.WalkTurns.{going_start, going_next, going_refused, going_end}
use Rattle.drom.proofs.walk.walk.Goals as goal

pub loop-at-init : goal.loop-at-init
loop-at-init c = going_start _ _ _ _ c.requires.1

pub loop-at-smaller : goal.loop-at-smaller
loop-at-smaller c = omega (arith, going_on _ _ _ _ _ _ _ _ c.loop-at.invariant c.loop-at-test.true _ c.entry_at.ensures.buffer _ (sym c.entry_at.ensures.answer ∙ c.in-Ok.is))

pub loop-at-preserved : goal.loop-at-preserved
loop-at-preserved c = rw c.from-at.ensures (going_next _ _ _ _ _ _ _ _ c.loop-at.invariant c.loop-at-test.true _ c.entry_at.ensures.buffer _ c.requires.0 c.requires.2 c.requires.3 (sym c.entry_at.ensures.answer ∙ c.in-Ok.is))

pub returns-in-Err : goal.returns-in-Err
returns-in-Err c = going_refused _ _ _ _ _ _ _ _ c.loop-at.invariant c.loop-at-test.true _ c.entry_at.ensures.buffer _ (sym c.entry_at.ensures.answer ∙ c.in-Err.is)

pub returns : goal.returns
returns c = going_end _ _ _ _ _ _ _ _ c.loop-at.invariant c.loop-at-test.false
