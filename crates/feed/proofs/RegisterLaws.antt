-- The register of CRC32: over two pieces it goes on from the first (`register_append`), and after a whole DROM, from the start,
-- it stands for the checksum over bytes 13 to the end (`register_whole`).
-- Assumes nothing.
use mathlib.Core.Path.{◌≡◌, refl, sym, ap, ◌∙◌}
use mathlib.Core.List.{List, [], ◌∷◌, ◌++◌}
use Prim.Native.Nat.{ℕ, zero, suc, ◌+◌, ◌-◌}
use native.Mathlib.Omega.{arith}
use lib.ListN.{length, drop}
use Rattle.util.specs.Crc.{over, byte_of32, start32, final32, crc_of32}
use Rattle.util.proofs.CrcLaws.{over_append}
use Rattle.feed.specs.Feed.{register_after}

drop_append : (n : ℕ) (xs ys : List ℕ) → drop n (xs ++ ys) ≡ drop n xs ++ drop (n - length xs) ys
drop_append zero xs ys = let e : 0 - length xs ≡ 0 = omega arith in ap (λ (k : ℕ). xs ++ drop k ys) (sym e)
drop_append (suc n) [] ys = let e : suc n - 0 ≡ suc n = omega arith in ap (λ (k : ℕ). drop k ys) (sym e)
drop_append (suc n) (x ∷ xs) ys =
    let e : suc n - suc (length xs) ≡ n - length xs = omega arith in
    drop_append n xs ys ∙ ap (λ (k : ℕ). drop n xs ++ drop k ys) (sym e)

pub register_append : (c t : ℕ) (xs ys : List ℕ) → register_after (register_after c t xs) (t + length xs) ys ≡ register_after c t (xs ++ ys)
register_append c t xs ys =
    let e : 13 - (t + length xs) ≡ 13 - t - length xs = omega arith in
    ap (λ (k : ℕ). over byte_of32 (register_after c t xs) (drop k ys)) e
    ∙ sym (ap (over byte_of32 c) (drop_append (13 - t) xs ys) ∙ over_append byte_of32 c (drop (13 - t) xs) (drop (13 - t - length xs) ys))

pub register_whole : (drom : List ℕ) → final32 (register_after start32 0 drom) ≡ crc_of32 (drop 13 drom)
unfolding crc_of32
register_whole drom = refl
