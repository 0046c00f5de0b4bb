-- `crc32_more` meets its contract: the two tables follow their rules, each by one computed test of all its entries (`stepped`, `rowed`).
-- Assumes nothing.
use Rattle.std.proofs.Common.{refl}
use Rattle.util.specs.Crc.{bit_of32}
use Rattle.util.specs.declared.tables.TheConstants.{CRC32_ROWS}
use Rattle.util.proofs.CrcLaws.{stepped, rowed}
use Rattle.util.proofs.crc.crc32_more.Goals as goal

pub by_byte-requires : goal.by_byte-requires
unfolding bit_of32
by_byte-requires c = stepped _ tt refl

pub invariant_of-rows : goal.invariant_of-rows
unfolding bit_of32
invariant_of-rows c = record { rowed = rowed CRC32_ROWS tt refl }
