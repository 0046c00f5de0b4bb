-- `capi::four_at` meets its contract: the library's number of four bytes is that of the definition.
-- Assumes nothing.
use Rattle.std.proofs.Common.{ap, ◌∙◌, w32}
use Rattle.std.specs.Int.{from_le_bytes}
use Rattle.capi.proofs.ByteLaws.{number_four}
use Rattle.capi.proofs.numbers.four_at.Goals as goal

pub returns : goal.returns
returns c = c.from_le_bytes.ensures ∙ ap (from_le_bytes w32) c.part_at.ensures ∙ number_four c.args.at c.args.bytes.now c.requires
