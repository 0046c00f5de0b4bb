-- `capi::put_numbers` meets its contract: a turn writes one number more, and at the end all are written.
-- Assumes nothing.
use Rattle.std.proofs.Common.{◌≡◌, length, get_or, ◌∙◌, sym, ap, refl, arith, rules}
use Rattle.std.proofs.lemmas.List.{take_all}
use Rattle.bits.proofs.LawsFront.{wrote_none, fitted, follows}
use Rattle.capi.specs.Bytes.{numbers_bytes}
use Rattle.capi.proofs.ByteLaws.{le_eight, le_length, numbers_more}
use Rattle.capi.proofs.numbers.put_numbers.Goals as goal

pub loop-n-init : goal.loop-n-init
unfolding numbers_bytes
loop-n-init c = (refl, wrote_none)

pub loop-n-preserved : goal.loop-n-preserved
loop-n-preserved c =
    let turn = c.loop-n in
    let n = get_or c.args.numbers.now turn.n-index 0 in
    let bytes = c.to_le_bytes.ensures ∙ le_eight n in
    let eight : length c.to_le_bytes.result ≡ 8 = ap length bytes ∙ le_length 8 n in
    let put = fitted c.put_all-at.ensures (search (rules, eight)) in
    let wrote = follows turn.at turn.invariant.1.counts turn.invariant.1 put in
    let more = numbers_more c.args.numbers.now turn.n-index c.loop-n-test.true in
    (omega (arith, put.counts), rw (more, sym bytes) wrote)

pub returns : goal.returns
returns c =
    let all = take_all c.loop-n.n-index c.args.numbers.now c.loop-n-test.false in
    rw all at c.loop-n.invariant.1
