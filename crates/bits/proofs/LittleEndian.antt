-- std's numbers of little-endian bytes are the document's: `from_le_bytes` of two, four and eight bytes is `le2`, `le4`, `le8` of them.
use Rattle.std.specs.Prelude.{ℕ, ◌≡◌, refl, [], ◌∷◌}
use Rattle.std.specs.Int.{w16, w32, w64, from_le_bytes}
use Rattle.bits.specs.Bits.{le2, le4, le8}

module _ (a b c d e f g h : ℕ) where
  pub two_bytes : from_le_bytes w16 (a ∷ b ∷ []) ≡ le2 a b
  two_bytes = refl

  pub four_bytes : from_le_bytes w32 (a ∷ b ∷ c ∷ d ∷ []) ≡ le4 a b c d
  four_bytes = refl

  pub eight_bytes : from_le_bytes w64 (a ∷ b ∷ c ∷ d ∷ e ∷ f ∷ g ∷ h ∷ []) ≡ le8 a b c d e f g h
  eight_bytes = refl
