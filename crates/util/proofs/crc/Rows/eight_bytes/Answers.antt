-- `eight_bytes` meets its contract: each byte goes by itself, with what of the register meets it, and the eight are put together (`eight`).
-- Assumes nothing.
use Rattle.std.proofs.Common.{◌≡◌, ℕ, ◌+◌, ◌*◌, ◌/◌, ◌%◌, List, length, get_or, ap, ◌∙◌, arith}
use lib.Bits.{bit_xor}
use Rattle.util.specs.Crc.{times, over, bit_of32, byte_of32}
use Rattle.util.proofs.CrcLaws.{eight, listed_all}
use Rattle.util.proofs.crc.Rows.eight_bytes.Goals as goal

pub returns : goal.returns
returns c =
    let r = c.args.c in
    let bs = c.args.bytes.now in
    let whole : 0 + 8 ≡ length bs = omega arith in
    let third : r / 65536 % 256 ≡ r / 256 / 256 % 256 = omega arith in
    let fourth : r / 16777216 % 256 ≡ r / 256 / 256 / 256 % 256 = omega arith in
    let put = λ (n i x : ℕ) (e : get_or c.to_le_bytes.result i 0 ≡ x). ap (λ (y : ℕ). times (n * 8) bit_of32 (bit_xor y (get_or bs i 0))) e in
    let part = λ (i : ℕ). ap (λ (xs : List ℕ). get_or xs i 0) c.to_le_bytes.ensures in
    eight r _ _ _ _ _ _ _ _ _ _ _ _ _ _ _ _ c.ranges.c.fits
    (c.fits-bytes 0) (c.fits-bytes 1) (c.fits-bytes 2) (c.fits-bytes 3) (c.fits-bytes 4) (c.fits-bytes 5) (c.fits-bytes 6) (c.fits-bytes 7)
    (c.byte_in_rows-8.ensures ∙ put 8 0 (r % 256) (part 0))
    (c.byte_in_rows-7.ensures ∙ put 7 1 (r / 256 % 256) (part 1))
    (c.byte_in_rows-6.ensures ∙ put 6 2 (r / 256 / 256 % 256) (part 2 ∙ third))
    (c.byte_in_rows-5.ensures ∙ put 5 3 (r / 256 / 256 / 256 % 256) (part 3 ∙ fourth))
    c.byte_in_rows-4.ensures
    c.byte_in_rows-3.ensures
    c.byte_in_rows-2.ensures
    c.byte_in_rows.ensures
    ∙ ap (over byte_of32 r) (listed_all 8 0 bs whole)
