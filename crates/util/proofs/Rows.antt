-- The syntax's tests as facts on numbers: a range is two bounds, a row is its bytes' ranges, and the alternatives are a sum of rows.
-- Assumes nothing.
use Rattle.std.proofs.Common.{◌≡◌, ℕ, ◌<◌, ◌≤◌, Bool, true, false, ◌&&◌, ◌||◌, ltb, leb, ◌⊎◌, ◌↔◌, refl, inl, inr, arith, ltb-false, ltb-true, le-leb, leb-true}
use borrow.Author.Tests.{lt-leb}
use Rattle.util.specs.Range.{range}
use Rattle.util.specs.Utf8.{utf8_tail, is_scalar, utf8_2, utf8_3, utf8_4}

pub clash : false ≡ true → ⊥
clash e = let z : ◌≡◌ {A = ℕ} 0 1 = cc in omega arith

pub split : (n k : ℕ) → (n < k) ⊎ (k ≤ n)
split n k = go (ltb n k) refl
  where
    go : (t : Bool) → ltb n k ≡ t → (n < k) ⊎ (k ≤ n)
    go true e = inl (ltb-true n k e)
    go false e = inr (ltb-false n k e)

-- ---- what a test means

pub test_means : (t : Bool) → t ≡ true ↔ t ≡ true
test_means t = (λ e. e, λ e. e)

module _ {P Q : Type 0} where
  pub and_means : {p q : Bool} → (p ≡ true ↔ P) → (q ≡ true ↔ Q) → (p && q) ≡ true ↔ P × Q
  and_means {p = true} f g = (λ e. (f.0 refl, g.0 e), λ h. g.1 h.1)
  and_means {p = false} f g = (λ e. absurd (clash e), λ h. absurd (clash (f.1 h.0)))

  pub or_means : {p q : Bool} → (p ≡ true ↔ P) → (q ≡ true ↔ Q) → (p || q) ≡ true ↔ (P ⊎ Q)
  or_means {p = true} f g = (λ e. inl (f.0 refl), λ h. refl)
  or_means {p = false} {q = q} f g = (λ e. inr (g.0 e), go)
    where
      go : P ⊎ Q → q ≡ true
      go (inl x) = absurd (clash (f.1 x))
      go (inr y) = g.1 y

abbrev pub In : ℕ → ℕ → ℕ → Type 0
In first last n = (first ≤ n) × (n ≤ last)

abbrev pub Row2 : ℕ → ℕ → ℕ → ℕ → ℕ → ℕ → Type 0
Row2 first last low high a b = In first last a × In low high b

abbrev pub Row3 : ℕ → ℕ → ℕ → ℕ → ℕ → ℕ → ℕ → Type 0
Row3 first last low high a b c = Row2 first last low high a b × In 0x80 0xBF c

abbrev pub Row4 : ℕ → ℕ → ℕ → ℕ → ℕ → ℕ → ℕ → ℕ → Type 0
Row4 first last low high a b c d = Row3 first last low high a b c × In 0x80 0xBF d

pub range_means : (first last n : ℕ) → range first last n ≡ true ↔ In first last n
range_means first last n = and_means (leb-true first n, le-leb first n) (leb-true n last, le-leb n last)

pub past : (first last n : ℕ) → last < n → range first last n ≡ false
past first last n h = go (leb first n)
  where
    go : (t : Bool) → (t && leb n last) ≡ false
    go true = lt-leb n last h
    go false = refl

pub below : (first last n : ℕ) → n < first → range first last n ≡ false
below first last n h = rw (lt-leb first n h)

-- ---- scalar values

abbrev pub Scalar : ℕ → Type 0
Scalar n = In 0 0xD7FF n ⊎ In 0xE000 0x10FFFF n

pub scalar_means : (n : ℕ) → is_scalar n ≡ true ↔ Scalar n
unfolding is_scalar
scalar_means n = or_means (range_means 0 0xD7FF n) (range_means 0xE000 0x10FFFF n)

pub scalar_top : (n : ℕ) → Scalar n → n < 0x110000
scalar_top n (inl s) = omega arith
scalar_top n (inr s) = omega arith

-- ---- characters of two, three and four bytes

module _ (first last low high a b : ℕ) where
  row2_means : (range first last a && range low high b) ≡ true ↔ Row2 first last low high a b
  row2_means = and_means (range_means first last a) (range_means low high b)

  row3_means : (c : ℕ) → (range first last a && range low high b && utf8_tail c) ≡ true ↔ Row3 first last low high a b c
  row3_means c = and_means row2_means (range_means 0x80 0xBF c)

  row4_means : (c d : ℕ) → (range first last a && range low high b && utf8_tail c && utf8_tail d) ≡ true ↔ Row4 first last low high a b c d
  row4_means c d = and_means (row3_means c) (range_means 0x80 0xBF d)

module _ (a b : ℕ) where
  pub two_means : utf8_2 a b ≡ true ↔ Row2 0xC2 0xDF 0x80 0xBF a b
  unfolding utf8_2
  two_means = row2_means 0xC2 0xDF 0x80 0xBF a b

  pub no_two : 0xE0 ≤ a → utf8_2 a b ≡ false
  unfolding utf8_2
  no_two h = rw (past 0xC2 0xDF a (omega arith))

module _ (a b c : ℕ) where
  abbrev pub Rows3 : Type 0
  Rows3 =
      ((Row3 0xE0 0xE0 0xA0 0xBF a b c ⊎ Row3 0xE1 0xEC 0x80 0xBF a b c) ⊎ Row3 0xED 0xED 0x80 0x9F a b c)
      ⊎ Row3 0xEE 0xEF 0x80 0xBF a b c

  pub three_means : utf8_3 a b c ≡ true ↔ Rows3
  unfolding utf8_3
  three_means =
      or_means
      (or_means (or_means (row3_means 0xE0 0xE0 0xA0 0xBF a b c) (row3_means 0xE1 0xEC 0x80 0xBF a b c)) (row3_means 0xED 0xED 0x80 0x9F a b c))
      (row3_means 0xEE 0xEF 0x80 0xBF a b c)

  pub no_three : 0xF0 ≤ a → utf8_3 a b c ≡ false
  unfolding utf8_3
  no_three h =
      rw (past 0xE0 0xE0 a (omega arith), past 0xE1 0xEC a (omega arith), past 0xED 0xED a (omega arith), past 0xEE 0xEF a (omega arith))

module _ (a b c d : ℕ) where
  abbrev pub Rows4 : Type 0
  Rows4 = (Row4 0xF0 0xF0 0x90 0xBF a b c d ⊎ Row4 0xF1 0xF3 0x80 0xBF a b c d) ⊎ Row4 0xF4 0xF4 0x80 0x8F a b c d

  pub four_means : utf8_4 a b c d ≡ true ↔ Rows4
  unfolding utf8_4
  four_means =
      or_means (or_means (row4_means 0xF0 0xF0 0x90 0xBF a b c d) (row4_means 0xF1 0xF3 0x80 0xBF a b c d)) (row4_means 0xF4 0xF4 0x80 0x8F a b c d)
