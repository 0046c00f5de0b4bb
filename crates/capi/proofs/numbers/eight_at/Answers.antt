-- `capi::eight_at` meets its contract: the library's number of eight bytes is that of the definition.
-- Assumes nothing.
use Rattle.std.proofs.Common.{ap, ◌∙◌, w64}
use Rattle.std.specs.Int.{from_le_bytes}
use Rattle.capi.proofs.ByteLaws.{number_eight}
use Rattle.capi.proofs.numbers.eight_at.Goals as goal

pub returns : goal.returns
returns c = c.from_le_bytes.ensures ∙ ap (from_le_bytes w64) c.part_at.ensures ∙ number_eight c.args.at c.args.bytes.now c.requires
