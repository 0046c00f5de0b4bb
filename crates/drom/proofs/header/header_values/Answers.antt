-- `drom::header::header_values` meets its contract: the values are those of the first 16 bytes, if there are so many.
-- Assumes nothing.
use Rattle.std.proofs.Common.{ap, ◌∙◌}
use borrow.Author.Tests.{le-ltb}
use Rattle.drom.specs.HeaderValues.{values_in}
use Rattle.drom.proofs.HeaderLaws.{first_16}
use Rattle.drom.proofs.header.header_values.Goals as goal

pub returns-in-Some : goal.returns-in-Some
returns-in-Some c =
    rw (le-ltb _ 16 c.in-Some.ensures.cases.enough) (c.values_in.ensures ∙ ap values_in c.in-Some.ensures.cases.same ∙ first_16 c.args.bytes.now)
