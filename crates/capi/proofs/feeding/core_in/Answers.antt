-- `capi::core_in` meets its contract: each number is the one that stands at its offset.
-- Assumes nothing.
use native.Mathlib.Omega.{arith}
use Rattle.capi.proofs.ByteLaws.{number_one}
use Rattle.capi.proofs.feeding.core_in.Goals as goal

pub returns : goal.returns
returns c =
    let refusal = number_one 52 c.args.bytes.now (omega arith) in
    rw (c.eight_at.ensures, c.eight_at-2.ensures, refusal, c.eight_at-3.ensures, c.four_at.ensures, c.eight_at-4.ensures, c.eight_at-5.ensures, c.eight_at-6.ensures)
