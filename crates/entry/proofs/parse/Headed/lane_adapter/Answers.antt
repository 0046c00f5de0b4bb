-- `entry::parse::lane_adapter` meets its contract. Short or long enough, it is its row.
-- Assumes nothing.
use mathlib.Core.Path.{refl, sym}
use Rattle.entry.specs.Rows.{lane}
use Rattle.entry.proofs.DecodeLaws.{row_short, row_plain}
use Rattle.entry.proofs.parse.Headed.lane_adapter.Goals as goal

pub returns-then-self-lt4 : goal.returns-then-self-lt4
returns-then-self-lt4 c = sym (row_short lane _ c.if-self-lt4.true)

pub returns : goal.returns
returns c = sym (row_plain lane _ refl c.if-self-lt4.false)
