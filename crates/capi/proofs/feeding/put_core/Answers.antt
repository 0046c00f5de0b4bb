-- `capi::put_core` meets its contract. Six numbers, and behind them the register and the refusal.
-- Assumes nothing.
use Rattle.std.proofs.Common.{◌≡◌, ◌%◌, ◌∙◌, ap, refl, length, arith, rules, Fits, w8}
use Rattle.bits.proofs.LawsFront.{follows, fitted}
use Rattle.capi.specs.Bytes.{le, numbers_bytes}
use Rattle.capi.proofs.ByteLaws.{le_four}
use Rattle.capi.proofs.feeding.put_core.Goals as goal

pub returns : goal.returns
unfolding le numbers_bytes
returns c =
    let small : Fits w8 c.args.c.refusal = search rules in
    let byte : c.args.c.refusal % 256 ≡ c.args.c.refusal = omega (arith, small.fits) in
    let bytes = c.to_le_bytes.ensures ∙ le_four c.args.c.register in
    let four : length c.to_le_bytes.result ≡ 4 = ap length bytes in
    let register = fitted c.put_all.ensures (search (rules, four)) in
    let refusal = fitted c.put.ensures (search rules) in
    rw byte (follows 52 refl (follows 48 refl c.put_numbers.ensures (rw bytes at register)) refusal)
