-- `take_in` meets its contract: by each way through a turn, what is left leads to the same.
-- Assumes nothing.
use borrow.Author.Rules.{rules}
use mathlib.Core.Path.{◌≡◌, sym, ap, ap₂, ◌∙◌}
use mathlib.Core.List.{List}
use Prim.Native.Nat.{ℕ, ◌+◌, ◌<◌}
use native.Mathlib.Omega.{arith}
use mir.Syntax.{w64}
use mir.Val.{Fits}
use lib.ListN.{length, get_or}
use Rattle.feed.specs.Run.{Run, step_of, steps}
use Rattle.feed.specs.Feed.{run_in, state_after}
use Rattle.feed.proofs.WithinLaws.{good_of}
use Rattle.feed.proofs.EndLaws.{rest_all, rest_long}
use Rattle.feed.specs.Loop.{Good}
use Rattle.feed.proofs.FeedLaws.{Held, held_start, turn_to, held_end}
use Rattle.feed.proofs.AlongLaws.{through_still, held_through, held_passes}
use Rattle.feed.proofs.feeding.State.take_in.Goals as goal
use Rattle.feed.proofs.feeding.State.take_in.Goals.{then-fill-eq0+else-n-ne0, else-fill-eq0+else-at-gt21}

pub loop-i-init : goal.loop-i-init
loop-i-init c =
    let r : Run = run_in c.args.self.now c.args.records.now in
    let w : Fits w64 c.args.self.now.core.announced = search rules in
    let f : get_or c.args.self.now.pending 0 0 < 256 = search rules in
    held_start _ _ (good_of r c.requires.0 w.fits f (search rules) (search rules) (search rules) c.requires.1) c.requires.2

pub loop-i-preserved-then-self-ne0 : goal.loop-i-preserved-then-self-ne0
loop-i-preserved-then-self-ne0 c = held_passes _ _ _ _ (λ j. (c.type_inv.piece j).fits) c.loop-i.invariant c.if-self-ne0.true

pub loop-i-preserved-then-n-ne0 : goal.loop-i-preserved-then-n-ne0
loop-i-preserved-then-n-ne0 c =
    held_through _ _ _ _ _ _ _ (λ j. (c.type_inv.piece j).fits) c.loop-i.invariant (rest_all c.args.piece.now c.loop-i.i) c.take_entries-n.ensures

pub keep_middle-i-requires : goal.keep_middle-i-requires
keep_middle-i-requires c =
    let l = c.loop-i in
    let more : l.self.core.fill + 1 < get_or l.self.pending 0 0 = omega (arith, c.from.ensures, c.if-fill-from.true) in
    (record { going = c.if-self-ne0.false; late = c.if-at-gt21.true; some = omega (arith, c.if-fill-eq0.false); more = more }, omega (arith, l.invariant.left, rest_long c.args.piece.now l.i c.loop-i-test.true))

pub loop-i-preserved-then-fill-from : goal.loop-i-preserved-then-fill-from
loop-i-preserved-then-fill-from c =
    let l = c.loop-i in
    let led = c.keep_middle-i.ensures.through l.records in
    held_through _ _ _ _ _ _ _ (λ j. (c.type_inv.piece j).fits) l.invariant (rest_all c.args.piece.now l.i) led

-- by whichever way a step is reached, nothing was taken in this turn
ready : (r₀ r r' : Run) (xs : List ℕ) (i : ℕ) → Held r₀ xs r i → i < length xs → r' ≡ r → Good r' × (r'.core.taken < r'.core.announced)
ready r₀ r r' xs i h t e = rw e (h.good, omega (arith, h.left, t))

pub step-requires : goal.step-requires
step-requires c =
    let l = c.loop-i in
    let still : run_in c.if-fill-eq0.self c.if-fill-eq0.records ≡ run_in l.self l.records =
    elim c.if-fill-eq0.branch [
      | then-fill-eq0+else-n-ne0 w ↦ ap₂ run_in w.self-is w.records-is ∙ through_still _ _ _ _ w.take_entries-n.ensures w.if-n-ne0.false
      | else-fill-eq0+else-at-gt21 w ↦ ap₂ run_in w.self-is w.records-is
    ]
    in
    ready _ _ _ _ l.i l.invariant c.loop-i-test.true still

pub loop-i-preserved : goal.loop-i-preserved
loop-i-preserved c =
    let l = c.loop-i in
    let b = get_or c.args.piece.now l.i 0 in
    let still : run_in c.if-fill-eq0.self c.if-fill-eq0.records ≡ run_in l.self l.records =
    elim c.if-fill-eq0.branch [
      | then-fill-eq0+else-n-ne0 w ↦ ap₂ run_in w.self-is w.records-is ∙ through_still _ _ _ _ w.take_entries-n.ensures w.if-n-ne0.false
      | else-fill-eq0+else-at-gt21 w ↦ ap₂ run_in w.self-is w.records-is
    ]
    in
    turn_to _ _ _ l.i _ l.invariant c.loop-i-test.true (c.type_inv.piece l.i).fits (sym (c.step.ensures ∙ ap (λ (r : Run). step_of r b) still))

pub returns : goal.returns
returns c =
    let all = steps (run_in c.args.self.now c.args.records.now) c.args.piece.now in
    let e = held_end _ _ _ _ c.loop-i.invariant c.loop-i-test.false in
    let after = c.register_after-register in
    record { state = ap (λ (r : Run). state_after r after.result) e ∙ ap (state_after all) after.ensures; buffer = ap (λ (r : Run). r.buffer) e }
