-- `entry::parse::dptx_ranking` meets its contract. Short or long enough, it is its row.
-- Assumes nothing.
use mathlib.Core.Path.{◌≡◌, refl, sym}
use Prim.Native.Nat.{◌/◌, ◌%◌}
use native.Mathlib.Omega.{arith}
use Rattle.bits.specs.Bits.{byte}
use Rattle.entry.specs.Rows.{dptx}
use Rattle.entry.proofs.DecodeLaws.{row_short, row_plain}
use Rattle.entry.proofs.parse.Headed.dptx_ranking.Goals as goal

pub returns-then-self-nrr : goal.returns-then-self-nrr
returns-then-self-nrr c = sym (row_short dptx _ c.if-self-nrr.true)

pub returns : goal.returns
returns c =
    let bs = c.args.self.bytes.now in
    let order : byte 3 bs / 32 ≡ byte 3 bs / 32 % 8 = omega arith in
    rw (c.mu.ensures, order) (sym (row_plain dptx bs refl c.if-self-nrr.false))
