-- `feed::table_of` meets its contract: a turn puts in one adapter more, and at the end none is left.
-- Assumes nothing.
use Rattle.std.proofs.Common.{◌≡◌, ◌∙◌, arith, rules}
use Rattle.std.specs.Iterator.Adapters.{rev_source}
use Rattle.std.specs.Slice.Iter.{chunks_exact_rest}
use Rattle.feed.proofs.OpenLaws.{table_start, table_end, table_in, table_out}
use Rattle.feed.proofs.feeding.table_of.Goals as goal

pub loop-pair-init : goal.loop-pair-init
loop-pair-init c =
    let rest : chunks_exact_rest (rev_source c.into_iter-pair-iterator.result) ≡ c.args.list.now = search rules in
    (search rules, rw rest (table_start c.args.list.now c.requires))

pub loop-pair-preserved-then-number-lt64 : goal.loop-pair-preserved-then-number-lt64
loop-pair-preserved-then-number-lt64 c =
    let turn = c.in-Some.ensures.steps in
    let size = c.loop-pair.invariant.0 in
    (turn.0 ∙ size, table_in c.in-Some.pair.now turn.2.0 _ c.from-number.ensures c.loop-pair.invariant.1 turn.2.1 (turn.2.2 ∙ size) (rw size at turn.2.3) c.if-number-lt64.true)

pub loop-pair-preserved : goal.loop-pair-preserved
loop-pair-preserved c =
    let turn = c.in-Some.ensures.steps in
    let size = c.loop-pair.invariant.0 in
    (turn.0 ∙ size, table_out c.in-Some.pair.now turn.2.0 _ c.from-number.ensures c.loop-pair.invariant.1 turn.2.1 (turn.2.2 ∙ size) (rw size at turn.2.3) c.if-number-lt64.false)

pub returns : goal.returns
returns c = table_end _ _ _ c.loop-pair.invariant.1 (omega (arith, c.in-None.ensures.steps.2.0, c.loop-pair.invariant.0))
