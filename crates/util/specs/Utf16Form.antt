-- UTF-16 by what it encodes (the Unicode Standard, D91 and Table 3-5), beside specs/Utf16.antt, which has what units decode to.
-- `Reads us xs`: the units us are, one after the other, the encodings of the scalar values and the unpaired surrogates that xs says.
-- The two say the same: `utf16_means` in proofs/Utf16Means.antt.
-- Assumes nothing.
use Rattle.std.specs.Prelude.{◌≡◌, ℕ, ◌+◌, ◌-◌, ◌/◌, ◌%◌, ◌<◌, true, false, cond, List, [], ◌∷◌, ◌++◌, nat_lt, slice_index}
use Rattle.util.specs.Range.{range}
use Rattle.util.specs.Utf16.{Char, scalar, unpaired, is_pair}
use Rattle.util.specs.Utf8.{is_scalar}

-- Each number of a list is a code unit: it has 16 bits.
abbrev pub Units : List ℕ → Type 0
Units us = (i : ℕ) → slice_index us i < 0x10000

-- The units of a scalar value: below 10000 one, with its own number; from there on a surrogate pair, for n - 10000, which has 20 bits:
-- the upper ten are in the first unit, the lower ten in the second.
unfoldable pub encode16 : ℕ → List ℕ
encode16 n =
    cond (nat_lt n 0x10000) (n ∷ []) ((0xD800 + (n - 0x10000) / 0x400) ∷ (0xDC00 + (n - 0x10000) % 0x400) ∷ [])

unfoldable pub encode16_all : List ℕ → List ℕ
encode16_all [] = []
encode16_all (n ∷ ns) = encode16 n ++ encode16_all ns

-- A surrogate may be read as unpaired only where it makes no pair with the unit after it (0, no surrogate, where there is none).
pub data Reads : List ℕ → List Char → Type 0 where
  none : Reads [] []
  value : {n : ℕ} {us : List ℕ} {xs : List Char} → is_scalar n ≡ true → Reads us xs → Reads (encode16 n ++ us) (scalar n ∷ xs)
  lone : {u : ℕ} {us : List ℕ} {xs : List Char} → range 0xD800 0xDFFF u ≡ true → is_pair u (slice_index us 0) ≡ false → Reads us xs
      → Reads (u ∷ us) (unpaired ∷ xs)
