-- `record::product_descriptor` meets its contract. The bytes are those of the fields.
-- Assumes nothing.
use mathlib.Core.Path.{refl}
use borrow.Author.Rules.{rules}
use Rattle.record.specs.Record.{payload_of}
use Rattle.record.proofs.RecordLaws.{wide_be, long_be, product_bytes}
use Rattle.record.proofs.write.product_descriptor.Goals as goal

pub returns : goal.returns
unfolding payload_of
returns c =
    let a = c.args in
    rw (product_bytes a.usb4.major a.usb4.minor a.vendor a.product a.fw.major a.fw.minor a.test a.revision
    (search rules) (search rules) (search rules) (search rules) (search rules) (search rules) (search rules) (search rules))
    (rw (wide_be a.vendor (search rules) c.to_be_bytes-v.ensures, wide_be a.product (search rules) c.to_be_bytes-p.ensures, long_be a.test (search rules) c.to_be_bytes-t.ensures) refl)
