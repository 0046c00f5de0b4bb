-- UTF-8, as RFC 3629 defines it, twice: by what it encodes (section 3) and by its syntax (section 4).
-- `Utf8 bs`: bs is the encodings of scalar values, one after the other. `is_utf8 bs`: the syntax, as a test.
-- The two say the same: `utf8_means` in proofs/Utf8Means.antt.
-- Assumes nothing.
use Rattle.std.specs.Prelude.{◌≡◌, ℕ, ◌+◌, ◌/◌, ◌%◌, Bool, true, false, cond, ◌&&◌, ◌||◌, List, [], ◌∷◌, ◌++◌, nat_lt}
use Rattle.util.specs.Range.{range}

-- Section 3. A scalar value is 0 to 10FFFF without the surrogates D800 to DFFF.
unfoldable pub is_scalar : ℕ → Bool
is_scalar n = range 0 0xD7FF n || range 0xE000 0x10FFFF n

-- Its octets: one for 0 to 7F, two for 80 to 7FF, three for 800 to FFFF, four from 10000 on.
unfoldable pub encode : ℕ → List ℕ
encode n =
    cond (nat_lt n 0x80) (n ∷ [])
    (cond (nat_lt n 0x800) ((0xC0 + n / 64) ∷ (0x80 + n % 64) ∷ [])
    (cond (nat_lt n 0x10000) ((0xE0 + n / 4096) ∷ (0x80 + n / 64 % 64) ∷ (0x80 + n % 64) ∷ [])
    ((0xF0 + n / 262144) ∷ (0x80 + n / 4096 % 64) ∷ (0x80 + n / 64 % 64) ∷ (0x80 + n % 64) ∷ [])))

unfoldable pub all_scalar : List ℕ → Bool
all_scalar [] = true
all_scalar (n ∷ ns) = is_scalar n && all_scalar ns

unfoldable pub encode_all : List ℕ → List ℕ
encode_all [] = []
encode_all (n ∷ ns) = encode n ++ encode_all ns

pub record Utf8 (bs : List ℕ) : Type 0 where
  pub scalars : List ℕ
  pub right : all_scalar scalars ≡ true
  pub octets : encode_all scalars ≡ bs

-- Section 4, line by line.
-- UTF8-1 = %x00-7F
unfoldable pub utf8_1 : ℕ → Bool
utf8_1 a = range 0x00 0x7F a

-- UTF8-tail = %x80-BF
abbrev pub utf8_tail : ℕ → Bool
utf8_tail n = range 0x80 0xBF n

-- UTF8-2 = %xC2-DF UTF8-tail
unfoldable pub utf8_2 : ℕ → ℕ → Bool
utf8_2 a b = range 0xC2 0xDF a && utf8_tail b

-- UTF8-3 = %xE0 %xA0-BF UTF8-tail / %xE1-EC 2( UTF8-tail ) / %xED %x80-9F UTF8-tail / %xEE-EF 2( UTF8-tail )
unfoldable pub utf8_3 : ℕ → ℕ → ℕ → Bool
utf8_3 a b c =
    (range 0xE0 0xE0 a && range 0xA0 0xBF b && utf8_tail c)
    || (range 0xE1 0xEC a && utf8_tail b && utf8_tail c)
    || (range 0xED 0xED a && range 0x80 0x9F b && utf8_tail c)
    || (range 0xEE 0xEF a && utf8_tail b && utf8_tail c)

-- UTF8-4 = %xF0 %x90-BF 2( UTF8-tail ) / %xF1-F3 3( UTF8-tail ) / %xF4 %x80-8F 2( UTF8-tail )
unfoldable pub utf8_4 : ℕ → ℕ → ℕ → ℕ → Bool
utf8_4 a b c d =
    (range 0xF0 0xF0 a && range 0x90 0xBF b && utf8_tail c && utf8_tail d)
    || (range 0xF1 0xF3 a && utf8_tail b && utf8_tail c && utf8_tail d)
    || (range 0xF4 0xF4 a && range 0x80 0x8F b && utf8_tail c && utf8_tail d)

-- UTF8-octets = *( UTF8-char ), UTF8-char = UTF8-1 / UTF8-2 / UTF8-3 / UTF8-4
unfoldable pub is_utf8 : List ℕ → Bool
is_utf8 [] = true
is_utf8 (a ∷ []) = utf8_1 a
is_utf8 (a ∷ b ∷ []) = cond (utf8_1 a) (is_utf8 (b ∷ [])) (utf8_2 a b)
is_utf8 (a ∷ b ∷ c ∷ []) = cond (utf8_1 a) (is_utf8 (b ∷ c ∷ [])) (cond (utf8_2 a b) (is_utf8 (c ∷ [])) (utf8_3 a b c))
is_utf8 (a ∷ b ∷ c ∷ d ∷ bs) =
    cond (utf8_1 a) (is_utf8 (b ∷ c ∷ d ∷ bs))
    (cond (utf8_2 a b) (is_utf8 (c ∷ d ∷ bs))
    (cond (utf8_3 a b c) (is_utf8 (d ∷ bs)) (cond (utf8_4 a b c d) (is_utf8 bs) false)))
