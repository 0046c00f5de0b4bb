-- `byte_by_rows` meets its contract: the byte, with the register's low one in it, goes by the rows, and the rest of the register moves down (`first_byte`).
-- Assumes nothing.
use Rattle.std.proofs.Common.{◌/◌, [], sym, refl, rules}
use Rattle.util.proofs.CrcLaws.{first_byte}
use Rattle.util.proofs.crc.Rows.byte_by_rows.Goals as goal

pub returns : goal.returns
returns c =
    let a = c.args in
    sym (first_byte a.c a.b _ (a.c / 256) [] (search rules) c.byte_in_rows.ensures refl)
