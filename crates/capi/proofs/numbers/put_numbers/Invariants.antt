-- The loop of `put_numbers`: the bytes of the numbers so far are written.
use Rattle.std.proofs.Common.{◌≡◌, ◌*◌, take}
use Rattle.bits.specs.Front.{Wrote}
use Rattle.capi.specs.Bytes.{numbers_bytes}
use Rattle.capi.proofs.numbers.put_numbers.Given as goal

abbrev pub invariant-loop-n : goal.invariant-loop-n
invariant-loop-n l = (l.at ≡ 8 * l.n-index) × Wrote (numbers_bytes (take l.n-index l.numbers)) l.initial.out l.out l.at
