-- `listed::read_listed` meets its contract: the table of the list, as bytes, reads as the list does.
-- Assumes nothing.
use Rattle.std.proofs.Common.{length}
use Rattle.listed.proofs.ListLaws.{table_report, table_leaves}
use Rattle.listed.proofs.read_listed.Goals as goal

pub returns : goal.returns
returns c =
    let list = c.args.list.now in
    let drom = c.args.drom.now in
    let out = c.args.out.now in
    record { report = cc (table_report list drom (length out)); buffer = cc (table_leaves list drom out) }
