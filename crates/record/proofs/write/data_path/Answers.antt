-- `record::data_path` meets its contract. The byte is that of the field.
-- Assumes nothing.
use borrow.Author.Rules.{rules}
use Rattle.record.specs.Record.{payload_of}
use Rattle.record.proofs.RecordLaws.{byte_bytes}
use Rattle.record.proofs.write.data_path.Goals as goal

pub returns : goal.returns
unfolding payload_of
returns c = rw (byte_bytes c.args.preference (search rules))
