-- What the definitions of specs/ give on written numbers, and how the bytes of fields with unknown numbers are shown.
use Prim.Native.Nat.{ℕ, ◌+◌, ◌*◌, ◌/◌, ◌%◌, ◌<◌}
use mathlib.Core.List.{List, [], ◌∷◌, ◌++◌}
use mathlib.Core.Path.{◌≡◌, refl, sym, ◌∙◌}
use native.Mathlib.Omega.{arith}
use lib.Dec.{eqb}
use lib.IntN.{negsuc}
use Rattle.bits.specs.Bits.{bits, bit, twos, le4}
use Rattle.bits.specs.Fields.{Field, ◌∶◌, z, zz, zzz, byte_fields, bits_of, all_bits, gather, pack}
use Rattle.bits.specs.Front.{onto, fitting}
use Rattle.bits.proofs.LawsFields.{cons, pack_run, pack_append}

-- A record's head: tag 10, offset 16, L 3, three zeros.
head : pack (10 ∶ 8 ∷ 16 ∶ 13 ∷ 3 ∶ 8 ∷ zzz ∷ []) ≡ 0x0A ∷ 0x00 ∷ 0x80 ∷ 0x18 ∷ []
unfolding pack all_bits bits_of gather
head = refl

-- Two whole bytes behind it.
whole : pack (10 ∶ 8 ∷ 16 ∶ 13 ∷ 3 ∶ 8 ∷ zzz ∷ byte_fields (2 ∷ 1 ∷ [])) ≡ 0x0A ∷ 0x00 ∷ 0x80 ∷ 0x18 ∷ 2 ∷ 1 ∷ []
unfolding pack all_bits bits_of gather byte_fields
whole = refl

-- A number keeps the low bits that its width has, and bits that make no whole byte are dropped.
cut : pack (0x1FF ∶ 8 ∷ 1 ∶ 4 ∷ []) ≡ 0xFF ∷ []
unfolding pack all_bits bits_of gather
cut = refl

written : onto (1 ∷ 2 ∷ []) (7 ∷ 8 ∷ 9 ∷ []) ≡ 1 ∷ 2 ∷ 9 ∷ []
written = refl

no_room_lem : onto (fitting (1 ∷ 2 ∷ []) 1) (7 ∷ []) ≡ 7 ∷ []
no_room_lem = refl

-- Bits compute to what code writes, also of a number that is not known.
module _ (x a b c d : ℕ) where
  bits_from_0 : bits 5 0 x ≡ x % 64
  bits_from_0 = refl

  bits_from_3 : bits 4 3 x ≡ x / 8 % 4
  bits_from_3 = refl

  bit_6 : bit 6 x ≡ eqb (x / 64 % 2) 1
  bit_6 = refl

  bit_0 : bit 0 x ≡ eqb (x % 2) 1
  bit_0 = refl

  four_bytes : le4 a b c d ≡ a + b * 256 + c * 65536 + d * 16777216
  four_bytes = refl

minus_one : twos (negsuc 0) ≡ 0xFF
minus_one = refl

-- Two bytes of fields, each byte by `omega`.
row : (n v p : ℕ) → n < 64 → v < 2 → p < 64 → pack (zz ∷ n ∶ 6 ∷ v ∶ 1 ∷ z ∷ p ∶ 6 ∷ []) ≡ n ∷ (v * 128 + p) ∷ []
row n v p hn hv hp = pack_run _ ∙ cons (omega arith) (cons (omega arith) refl)

-- A byte of fields in front of others.
front : (n : ℕ) (fs : List Field) → n < 64 → pack (zz ∷ n ∶ 6 ∷ fs) ≡ n ∷ pack fs
front n fs hn = pack_run _ ∙ cons (omega arith) (sym (pack_run fs))

-- A head of whole bytes splits off.
behind : (tag offset L : ℕ) (fs : List Field) → pack (tag ∶ 8 ∷ offset ∶ 13 ∷ L ∶ 8 ∷ zzz ∷ fs) ≡ pack (tag ∶ 8 ∷ offset ∶ 13 ∷ L ∶ 8 ∷ zzz ∷ []) ++ pack fs
behind tag offset L fs = pack_append (tag ∶ 8 ∷ offset ∶ 13 ∷ L ∶ 8 ∷ zzz ∷ []) fs refl
