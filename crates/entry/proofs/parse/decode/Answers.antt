-- `entry::parse::decode` meets its contract. Each way out is a row of the entry, by its length and byte 1.
-- Assumes nothing.
use mathlib.Core.Path.{refl, sym, ◌∙◌}
use native.Mathlib.Omega.{arith}
use Rattle.entry.specs.Rows.{unknown, unused}
use Rattle.entry.proofs.DecodeLaws.{row_short, row_plain, row_is_lem, row_unknown, row_generic, row_adapter, row_unused, decode_row}
use Rattle.entry.proofs.parse.decode.Goals as goal

pub returns-in-empty : goal.returns-in-empty
returns-in-empty c =
    let a = c.args in
    let bs = a.bytes.now in
    sym (decode_row a.kind bs unknown (row_unknown a.kind bs (omega arith)) ∙ row_short unknown bs (omega arith))

pub returns-in-len1 : goal.returns-in-len1
returns-in-len1 c =
    let a = c.args in
    let bs = a.bytes.now in
    sym (decode_row a.kind bs unknown (row_unknown a.kind bs (omega arith)) ∙ row_plain unknown bs refl (omega arith))

pub returns-in-0-to-127 : goal.returns-in-0-to-127
returns-in-0-to-127 c =
    let a = c.args in
    let bs = a.bytes.now in
    c.generic_entry.ensures ∙ sym (decode_row a.kind bs _ (row_generic a.kind bs (omega arith) (omega arith)))

pub returns-in-128-to-191 : goal.returns-in-128-to-191
returns-in-128-to-191 c =
    let a = c.args in
    let bs = a.bytes.now in
    let b = c.type_inv.bytes 1 in
    c.adapter_entry.ensures ∙ sym (decode_row a.kind bs _ (row_adapter a.kind bs (omega arith) (omega arith) (omega arith) (omega arith)))

pub returns-in-192-to-255 : goal.returns-in-192-to-255
returns-in-192-to-255 c =
    let a = c.args in
    let bs = a.bytes.now in
    let b = c.type_inv.bytes 1 in
    row_is_lem unused bs refl (omega arith) c.unused_adapter.ensures
    ∙ sym (decode_row a.kind bs _ (row_unused a.kind bs (omega arith) (omega arith) (omega arith) (omega arith)))
