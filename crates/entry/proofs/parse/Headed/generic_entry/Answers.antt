-- `entry::parse::generic_entry` meets its contract. Each arm is the row of its kind, whose least length `least_length` gave; the last is that of a kind with no row.
-- Assumes nothing.
use mathlib.Core.Path.{refl, sym, ap, ◌∙◌}
use native.Mathlib.Omega.{arith}
use Rattle.std.proofs.lemmas.Result.{err_from_is_err_and}
use Rattle.entry.specs.declared.parse.DromEntry.TheVariants as declared
use Rattle.entry.specs.Rows.{Row, ascii_vendor, ascii_model, serial, utf16_vendor, utf16_model, generic, tmu, product, usb3_map, data_path, embedded_link, generic_row}
use Rattle.entry.specs.Decode.{row_entry}
use Rattle.entry.proofs.DecodeLaws.{row_short, row_is_lem, text_ok, text_err, least_of, least_from, generic_other}
use borrow.Author.Rules.{rules, part_to_end}
use Rattle.entry.proofs.parse.Headed.generic_entry.Goals as goal

pub returns-then-self-least_length : goal.returns-then-self-least_length
returns-then-self-least_length c =
    let a = c.args in
    sym (row_short (generic_row a.kind) a.self.bytes.now (omega (arith, least_from a.kind a.self.bytes.now)))

pub returns-in-8 : goal.returns-in-8
returns-in-8 c = rw c.in-8.is (row_is_lem tmu _ refl (omega (arith, ap least_of c.in-8.is)) c.tmu.ensures)

pub returns-in-9 : goal.returns-in-9
returns-in-9 c = rw c.in-9.is (row_is_lem product _ refl (omega (arith, ap least_of c.in-9.is)) c.product_descriptor.ensures)

pub returns-in-11 : goal.returns-in-11
returns-in-11 c = rw c.in-11.is (row_is_lem usb3_map _ refl (search rules) c.usb3_port_mapping.ensures)

pub returns-in-14 : goal.returns-in-14
returns-in-14 c = rw c.in-14.is (row_is_lem data_path _ refl (omega (arith, ap least_of c.in-14.is)) c.single_data_path.ensures)

pub returns-in-16 : goal.returns-in-16
returns-in-16 c = rw c.in-16.is (row_is_lem embedded_link _ refl (omega (arith, ap least_of c.in-16.is)) c.embedded_link.ensures)

pub returns-in_default : goal.returns-in_default
returns-in_default c =
    let bs = c.args.self.bytes.now in
    row_is_lem generic bs refl c.args.self.headed c.other_generic.ensures
    ∙ ap (λ (row : Row). row_entry row bs) (sym (generic_other c.args.kind (search rules)))

pub returns-in_err-read_name-in-1 : goal.returns-in_err-read_name-in-1
returns-in_err-read_name-in-1 c =
    let bs = c.args.self.bytes.now in
    let p = err_from_is_err_and c.from_residual.result c.from_residual.ensures.1 in
    rw (p.1, p.2, c.in-1.is) (text_err ascii_vendor bs declared.AsciiVendorName _ refl _ (omega (arith, ap least_of c.in-1.is)) c.in_err-read_name-in-1.ensures)

pub returns-in_ok-read_name-in-1 : goal.returns-in_ok-read_name-in-1
returns-in_ok-read_name-in-1 c =
    let bs = c.args.self.bytes.now in
    rw c.in-1.is (text_ok ascii_vendor bs declared.AsciiVendorName _ refl _ (omega (arith, ap least_of c.in-1.is)) c.in_ok-read_name-in-1.ensures)

pub returns-in_err-read_name-in-2 : goal.returns-in_err-read_name-in-2
returns-in_err-read_name-in-2 c =
    let bs = c.args.self.bytes.now in
    let p = err_from_is_err_and c.from_residual-in_err-read_name-in-2.result c.from_residual-in_err-read_name-in-2.ensures.1 in
    rw (p.1, p.2, c.in-2.is) (text_err ascii_model bs declared.AsciiModelName _ refl _ (omega (arith, ap least_of c.in-2.is)) c.in_err-read_name-in-2.ensures)

pub returns-in_ok-read_name-in-2 : goal.returns-in_ok-read_name-in-2
returns-in_ok-read_name-in-2 c =
    let bs = c.args.self.bytes.now in
    rw c.in-2.is (text_ok ascii_model bs declared.AsciiModelName _ refl _ (omega (arith, ap least_of c.in-2.is)) c.in_ok-read_name-in-2.ensures)

pub returns-in_err-read_utf16-in-10 : goal.returns-in_err-read_utf16-in-10
returns-in_err-read_utf16-in-10 c =
    let bs = c.args.self.bytes.now in
    let p = err_from_is_err_and c.from_residual-in_err-read_utf16-in-10.result c.from_residual-in_err-read_utf16-in-10.ensures.1 in
    rw (p.1, p.2, c.in-10.is) (text_err serial bs (declared.SerialNumber c.from_le_bytes.result) _ (rw c.from_le_bytes.ensures) _ (omega (arith, ap least_of c.in-10.is)) (rw (part_to_end bs 4) at c.in_err-read_utf16-in-10.ensures))

pub returns-in_ok-read_utf16-in-10 : goal.returns-in_ok-read_utf16-in-10
returns-in_ok-read_utf16-in-10 c =
    let bs = c.args.self.bytes.now in
    rw c.in-10.is (text_ok serial bs (declared.SerialNumber c.from_le_bytes.result) _ (rw c.from_le_bytes.ensures) _ (omega (arith, ap least_of c.in-10.is)) (rw (part_to_end bs 4) at c.in_ok-read_utf16-in-10.ensures))

pub returns-in_err-read_utf16-in-12 : goal.returns-in_err-read_utf16-in-12
returns-in_err-read_utf16-in-12 c =
    let bs = c.args.self.bytes.now in
    let p = err_from_is_err_and c.from_residual-in_err-read_utf16-in-12.result c.from_residual-in_err-read_utf16-in-12.ensures.1 in
    rw (p.1, p.2, c.in-12.is) (text_err utf16_vendor bs declared.Utf16VendorName _ refl _ (omega (arith, ap least_of c.in-12.is)) (rw (part_to_end bs 2) at c.in_err-read_utf16-in-12.ensures))

pub returns-in_ok-read_utf16-in-12 : goal.returns-in_ok-read_utf16-in-12
returns-in_ok-read_utf16-in-12 c =
    let bs = c.args.self.bytes.now in
    rw c.in-12.is (text_ok utf16_vendor bs declared.Utf16VendorName _ refl _ (omega (arith, ap least_of c.in-12.is)) (rw (part_to_end bs 2) at c.in_ok-read_utf16-in-12.ensures))

pub returns-in_err-read_utf16-in-13 : goal.returns-in_err-read_utf16-in-13
returns-in_err-read_utf16-in-13 c =
    let bs = c.args.self.bytes.now in
    let p = err_from_is_err_and c.from_residual-in_err-read_utf16-in-13.result c.from_residual-in_err-read_utf16-in-13.ensures.1 in
    rw (p.1, p.2, c.in-13.is) (text_err utf16_model bs declared.Utf16ModelName _ refl _ (omega (arith, ap least_of c.in-13.is)) (rw (part_to_end bs 2) at c.in_err-read_utf16-in-13.ensures))

pub returns-in_ok-read_utf16-in-13 : goal.returns-in_ok-read_utf16-in-13
returns-in_ok-read_utf16-in-13 c =
    let bs = c.args.self.bytes.now in
    rw c.in-13.is (text_ok utf16_model bs declared.Utf16ModelName _ refl _ (omega (arith, ap least_of c.in-13.is)) (rw (part_to_end bs 2) at c.in_ok-read_utf16-in-13.ensures))
