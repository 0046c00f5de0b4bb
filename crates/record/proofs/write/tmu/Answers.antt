-- `record::tmu` meets its contract. The bytes are those of the fields.
-- Assumes nothing.
use mathlib.Core.Path.{◌≡◌, ◌∙◌}
use borrow.Author.Rules.{rules}
use mir.Facts.{to_z-of_z}
use Rattle.bits.specs.Bits.{twos}
use Rattle.record.specs.Record.{payload_of}
use Rattle.record.proofs.RecordLaws.{byte_twos, two_bytes}
use Rattle.record.proofs.write.tmu.Goals as goal

pub returns : goal.returns
unfolding payload_of
returns c =
    let byte = c.cast_unsigned in
    let is : byte.result ≡ twos c.args.mode = rw (to_z-of_z c.ranges.mode) at byte.ensures ∙ byte_twos c.args.mode c.ranges.mode in
    rw (← is, two_bytes byte.result c.args.rate (search rules) (search rules))
