-- `record::step::head_of` meets its contract. The test is that of the definition.
-- Assumes nothing.
use borrow.Author.Rules.{rules}
use borrow.Author.Tests.{lt-ltb, le-ltb}
use Rattle.record.specs.Step.{head_in}
use Rattle.record.proofs.step.head_of.Goals as goal

pub returns-then-bytes-lt4 : goal.returns-then-bytes-lt4
unfolding head_in
returns-then-bytes-lt4 c = rw (lt-ltb _ 4 c.if-bytes-lt4.true) (search rules)

pub returns : goal.returns
unfolding head_in
returns c =
    rw (le-ltb _ 4 c.if-bytes-lt4.false, c.at.ensures.0, c.at-2.ensures.0, c.entry_length.ensures.0)
