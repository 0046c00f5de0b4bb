-- `record::put_utf16` meets its contract. The two refusals do not come: the bytes are even in number, and the buffer has room.
-- Assumes nothing.
use mathlib.Core.Path.{sym, ◌∙◌}
use lib.ListN.{length}
use borrow.Author.Rules.{rules}
use Rattle.record.proofs.TextLaws.{text_answer, text_wrote}
use Rattle.record.proofs.write.put_utf16.Goals as goal

pub unwrap-requires : goal.unwrap-requires
unwrap-requires c =
    let text = c.args.text.now in
    let part = c.args.out.now in
    rw (c.bytes_to_utf16_ascii.ensures.answer ∙ text_answer text c.requires.0 (length part) c.requires.1) (search rules)

pub returns : goal.returns
returns c =
    let text = c.args.text.now in
    let answer = c.bytes_to_utf16_ascii.ensures in
    text_wrote text c.requires.0 _ c.requires.1 (sym answer.answer ∙ c.unwrap.ensures) answer.buffer
