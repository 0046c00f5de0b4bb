-- The layouts on bytes that are written out.
-- Assumes nothing.
use mathlib.Core.List.{[], ◌∷◌, ◌++◌}
use mathlib.Core.Path.{◌≡◌, refl}
use lib.ListN.{replicate}
use Rattle.capi.specs.Bytes.{le, number}
use Rattle.capi.specs.State.{state_in}

-- a number's bytes, and the number of bytes
four : le 4 0x12345678 ≡ 0x78 ∷ 0x56 ∷ 0x34 ∷ 0x12 ∷ []
unfolding le
four = refl

back : number (0x78 ∷ 0x56 ∷ 0x34 ∷ 0x12 ∷ []) ≡ 0x12345678
unfolding number
back = refl

-- the byte at 32 is the least of the count, and the byte at 52 the refusal
counts : (state_in (replicate 32 0 ++ (7 ∷ 1 ∷ []) ++ replicate 354 0)).core.count ≡ 263
unfolding number
counts = refl

refuses : (state_in (replicate 52 0 ++ (9 ∷ []) ++ replicate 335 0)).core.refusal ≡ 9
unfolding number
refuses = refl
