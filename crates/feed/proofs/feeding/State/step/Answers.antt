-- `step` meets its contract: one way through for each case of `step_of`, in its order.
-- Assumes nothing.
use mathlib.Core.Path.{sym, subst, ◌∙◌}
use Prim.Native.Nat.{ℕ, ◌≤◌, ◌<◌}
use native.Mathlib.Omega.{arith}
use Rattle.drom.specs.Header.{body_start}
use Rattle.feed.specs.Run.{Run, judged}
use Rattle.feed.specs.Feed.{run_in}
use Rattle.feed.proofs.StepLaws.{step_refused, step_header, step_judge, step_skip, step_kept, step_zero, step_past, step_first}
use Rattle.feed.proofs.feeding.State.step.Goals as goal

pub returns-then-self-ne0 : goal.returns-then-self-ne0
returns-then-self-ne0 c = sym (step_refused (run_in c.args.self.now c.args.records.now) c.args.b c.if-self-ne0.true)

pub returns-then-at-lt15 : goal.returns-then-at-lt15
returns-then-at-lt15 c = sym (step_header (run_in c.args.self.now c.args.records.now) c.args.b c.if-self-ne0.false c.if-at-lt15.true)

pub returns-then-at-eq15 : goal.returns-then-at-eq15
unfolding judged
returns-then-at-eq15 c =
    rw c.header_number-self.ensures (sym (step_judge (run_in c.args.self.now c.args.records.now) c.args.b c.if-self-ne0.false c.if-at-eq15.true))

pub returns-then-at-body_start : goal.returns-then-at-body_start
returns-then-at-body_start c =
    let r : Run = run_in c.args.self.now c.args.records.now in
    let s : r.core.taken < body_start r.header = subst (λ (n : ℕ). r.core.taken < n) c.body_start.ensures c.if-at-body_start.true in
    sym (step_skip r c.args.b c.if-self-ne0.false (omega (arith, c.if-at-lt15.false, c.if-at-eq15.false)) s)

pub returns-then-self-ne0-2 : goal.returns-then-self-ne0-2
returns-then-self-ne0-2 c =
    let r : Run = run_in c.args.self.now c.args.records.now in
    let s : body_start r.header ≤ r.core.taken = subst (λ (n : ℕ). n ≤ r.core.taken) c.body_start.ensures c.if-at-body_start.false in
    c.keep.ensures ∙ sym (step_kept r c.args.b c.if-self-ne0.false (omega (arith, c.if-at-lt15.false, c.if-at-eq15.false)) s c.if-self-ne0-2.true)

pub returns-then-b-eq0 : goal.returns-then-b-eq0
returns-then-b-eq0 c =
    let r : Run = run_in c.args.self.now c.args.records.now in
    let s : body_start r.header ≤ r.core.taken = subst (λ (n : ℕ). n ≤ r.core.taken) c.body_start.ensures c.if-at-body_start.false in
    rw c.refuse.ensures (sym (step_zero r c.args.b c.if-self-ne0.false (omega (arith, c.if-at-lt15.false, c.if-at-eq15.false)) s c.if-self-ne0-2.false c.if-b-eq0.true))

pub returns-then-self-at : goal.returns-then-self-at
returns-then-self-at c =
    let r : Run = run_in c.args.self.now c.args.records.now in
    let s : body_start r.header ≤ r.core.taken = subst (λ (n : ℕ). n ≤ r.core.taken) c.body_start.ensures c.if-at-body_start.false in
    rw c.refuse-then-self-at.ensures (sym (step_past r c.args.b c.if-self-ne0.false (omega (arith, c.if-at-lt15.false, c.if-at-eq15.false)) s c.if-self-ne0-2.false c.if-b-eq0.false (rw c.from.ensures at c.if-self-at.true)))

pub returns : goal.returns
returns c =
    let r : Run = run_in c.args.self.now c.args.records.now in
    let s : body_start r.header ≤ r.core.taken = subst (λ (n : ℕ). n ≤ r.core.taken) c.body_start.ensures c.if-at-body_start.false in
    c.keep-2.ensures ∙ sym (step_first r c.args.b c.if-self-ne0.false (omega (arith, c.if-at-lt15.false, c.if-at-eq15.false)) s c.if-self-ne0-2.false c.if-b-eq0.false (rw c.from.ensures at c.if-self-at.false))
