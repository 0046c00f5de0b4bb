-- Demand 2's "fit for its kind", said apart from the decoding: proofs/FitLaws.antt shows that an entry is refused exactly where it is not fit.
-- Assumes nothing.
use Rattle.std.specs.Prelude.{◌≡◌, false, List, ◌∷◌, ◌++◌, ℕ, ◌≤◌, ◌%◌, length, drop}
use Rattle.util.specs.Utf8.{Utf8}
use Rattle.entry.specs.Names.{has_zero}
use Rattle.entry.specs.Rows.{least, Text, no_text, name, utf16_from, text_in, row_of}

-- a name: UTF-8 without a zero, and then a zero
pub record Name (bytes : List ℕ) : Type 0 where
  pub text : List ℕ
  pub rest : List ℕ
  pub closed : bytes ≡ text ++ (0 ∷ rest)
  pub free : has_zero text ≡ false
  pub utf8 : Utf8 text

-- what is asked of a text
abbrev pub TextFits : Text → List ℕ → Type 0
TextFits no_text bs = Unit {0}
TextFits name bs = Name (drop 2 bs)
TextFits (utf16_from i) bs = length (drop i bs) % 2 ≡ 0

pub record Fit (kind : ℕ) (bs : List ℕ) : Type 0 where
  pub long : least (row_of kind bs) bs ≤ length bs
  pub text : TextFits (text_in (row_of kind bs)) bs
