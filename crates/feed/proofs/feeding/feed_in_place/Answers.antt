-- `feed::feed_in_place` meets its contract: the three refusals in their order, and else the loop's answer.
-- Assumes nothing.
use mathlib.Core.Path.{sym, ap₂, ◌∙◌}
use Rattle.feed.specs.Feed.{answer}
use Rattle.feed.proofs.BoundsLaws.{bounds_within}
use Rattle.feed.proofs.FeedLaws.{feed_out, feed_small, feed_beyond, feed_taken}
use Rattle.feed.proofs.feeding.feed_in_place.Goals as goal

pub returns-then-not-in_bounds : goal.returns-then-not-in_bounds
returns-then-not-in_bounds c =
    let a = c.args in
    sym (feed_out a.state.now a.piece.now a.records.now (sym c.in_bounds.ensures ∙ c.if-not-in_bounds.true))

pub returns-then-records-lt16368 : goal.returns-then-records-lt16368
returns-then-records-lt16368 c =
    let a = c.args in
    sym (feed_small a.state.now a.piece.now a.records.now (sym c.in_bounds.ensures ∙ c.if-not-in_bounds.false) c.if-records-lt16368.true)

pub overflow_sub-state : goal.overflow_sub-state
overflow_sub-state c = let s = c.args.state.now in bounds_within s.core s.header s.pending (sym c.in_bounds.ensures ∙ c.if-not-in_bounds.false)

pub returns-then-state-piece : goal.returns-then-state-piece
returns-then-state-piece c =
    let a = c.args in
    sym (feed_beyond a.state.now a.piece.now a.records.now (sym c.in_bounds.ensures ∙ c.if-not-in_bounds.false) c.if-records-lt16368.false c.if-state-piece.true)

pub returns : goal.returns
returns c =
    let a = c.args in
    let told = c.take_in.ensures in
    ap₂ (answer 0) told.state told.buffer
    ∙ sym (feed_taken a.state.now a.piece.now a.records.now (sym c.in_bounds.ensures ∙ c.if-not-in_bounds.false) c.if-records-lt16368.false c.if-state-piece.false)
