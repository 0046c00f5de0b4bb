-- `capi::drom_read_listed` meets its contract: the table of the list, as bytes, reads as the list does.
-- Assumes nothing.
use Rattle.std.proofs.Common.{length}
use Rattle.listed.proofs.ListLaws.{table_report, table_leaves}
use Rattle.capi.proofs.listing.drom_read_listed.Goals as goal

pub returns : goal.returns
returns c =
    let list = c.args.list.now in
    let drom = c.args.drom.now in
    let records = c.args.records.now in
    let report = table_report list drom (length records) in
    let leaves = table_leaves list drom records in
    record { answer = cc; records = cc; report = cc }
