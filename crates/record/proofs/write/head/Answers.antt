-- `record::head` meets its contract. The four bytes are those of the head.
-- Assumes nothing.
use mathlib.Core.List.{[]}
use borrow.Author.Rules.{rules}
use Rattle.bits.proofs.LawsFields.{pack_nil}
use Rattle.record.proofs.RecordLaws.{head_bytes}
use Rattle.record.proofs.write.head.Goals as goal

pub returns : goal.returns
returns c =
    let a = c.args in
    rw (head_bytes a.tag a.offset a.len [] (search rules), pack_nil)
