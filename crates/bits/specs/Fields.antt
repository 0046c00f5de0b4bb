-- Fields of bits, and the bytes that they make.
-- `tag ∶ 8 ∷ offset ∶ 13 ∷ L ∶ 8 ∷ zzz ∷ []` is "32 bits, most significant first: tag 8, offset 13, L 8, three zeros", and `pack` gives its four bytes.
use Rattle.std.specs.Prelude.{ℕ, zero, suc, ◌+◌, ◌*◌, ◌/◌, ◌%◌, ◌^◌, List, [], ◌∷◌, ◌++◌}

-- A field: a number, and in how many bits it stands. Of a number that is too large for them only its low bits stand there.
infix 68 ◌∶◌
pub data Field : Type 0 where
  ◌∶◌ : ℕ → ℕ → Field

-- Zero bits.
abbrev pub zeros : ℕ → Field
zeros n = 0 ∶ n

abbrev pub z : Field
z = zeros 1

abbrev pub zz : Field
zz = zeros 2

abbrev pub zzz : Field
zzz = zeros 3

-- Whole bytes, each a field.
unfoldable pub byte_fields : List ℕ → List Field
byte_fields [] = []
byte_fields (b ∷ bs) = b ∶ 8 ∷ byte_fields bs

-- The bits of a number that stands in `width` bits, most significant first.
unfoldable pub bits_of : ℕ → ℕ → List ℕ
bits_of x zero = []
bits_of x (suc width) = x / 2 ^ width % 2 ∷ bits_of x width

-- The bits of fields, one field after the other.
unfoldable pub all_bits : List Field → List ℕ
all_bits [] = []
all_bits (x ∶ width ∷ fs) = bits_of x width ++ all_bits fs

-- Eight bits make a byte, most significant first: `x` is the number that the bits of a byte have made so far, and `more` how many it wants after the next.
-- Bits at the end that make no whole byte are dropped. Fields that fill whole bytes leave none.
unfoldable pub gather : ℕ → ℕ → List ℕ → List ℕ
gather x more [] = []
gather x zero (b ∷ bs) = (2 * x + b) ∷ gather 0 7 bs
gather x (suc more) (b ∷ bs) = gather (2 * x + b) more bs

-- The bytes that fields make.
unfoldable pub pack : List Field → List ℕ
pack fs = gather 0 7 (all_bits fs)
