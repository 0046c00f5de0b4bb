-- `entry::parse::display_port_adapter` meets its contract. Short or long enough, it is its row.
-- Assumes nothing.
use mathlib.Core.Path.{refl, sym}
use Rattle.entry.specs.Rows.{display_port}
use Rattle.entry.proofs.DecodeLaws.{row_short, row_plain}
use Rattle.entry.proofs.parse.Headed.display_port_adapter.Goals as goal

pub returns-then-self-lt5 : goal.returns-then-self-lt5
returns-then-self-lt5 c = sym (row_short display_port _ c.if-self-lt5.true)

pub returns : goal.returns
returns c = sym (row_plain display_port _ refl c.if-self-lt5.false)
