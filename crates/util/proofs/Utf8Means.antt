-- The theorem `utf8_means`: `is_utf8` passes exactly the bytes that are the encodings of scalar values, one after the other.
-- Assumes nothing.
use Rattle.std.proofs.Common.{◌≡◌, ℕ, zero, suc, ◌+◌, ◌-◌, ◌*◌, ◌/◌, ◌%◌, ◌<◌, ◌≤◌, Bool, true, false, ◌⊎◌, ◌↔◌, List, [], ◌∷◌, ◌++◌, length, sym, refl, ap, ◌∙◌, subst, inl, inr, le_of_suc-le-suc, not-suc-le-zero, arith, le-ltb, lt-ltb}
use Rattle.util.specs.Utf8.{encode, all_scalar, encode_all, Utf8, utf8_1, utf8_2, utf8_3, utf8_4, is_utf8}
use Rattle.util.proofs.Chars.{ascii, not_ascii, ok1, ok2, ok3, ok4, bad1, bad2, bad3, bad4}
use Rattle.util.proofs.Rows.{clash, split, In, Scalar, Row2, Row3, Row4, Rows3, Rows4}
use Rattle.util.proofs.Rows.{test_means, and_means, scalar_means, scalar_top, two_means, three_means, four_means, no_two, no_three}

-- ---- the four lengths of an encoding

encode1 : (n : ℕ) → n < 0x80 → encode n ≡ n ∷ []
unfolding encode
encode1 n h = rw (lt-ltb n 0x80 h)

encode2 : (n : ℕ) → 0x80 ≤ n → n < 0x800 → encode n ≡ (0xC0 + n / 64) ∷ (0x80 + n % 64) ∷ []
unfolding encode
encode2 n h k = rw (le-ltb n 0x80 h, lt-ltb n 0x800 k)

encode3 : (n : ℕ) → 0x800 ≤ n → n < 0x10000 → encode n ≡ (0xE0 + n / 4096) ∷ (0x80 + n / 64 % 64) ∷ (0x80 + n % 64) ∷ []
unfolding encode
encode3 n h k = rw (le-ltb n 0x80 (omega arith), le-ltb n 0x800 h, lt-ltb n 0x10000 k)

encode4 : (n : ℕ) → 0x10000 ≤ n → encode n ≡ (0xF0 + n / 262144) ∷ (0x80 + n / 4096 % 64) ∷ (0x80 + n / 64 % 64) ∷ (0x80 + n % 64) ∷ []
unfolding encode
encode4 n h = rw (le-ltb n 0x80 (omega arith), le-ltb n 0x800 (omega arith), le-ltb n 0x10000 h)

-- ---- an encoding passes

-- the row of a scalar value's octets, by the value
rows3 : (n : ℕ) → 0x800 ≤ n → n < 0x10000 → Scalar n → Rows3 (0xE0 + n / 4096) (0x80 + n / 64 % 64) (0x80 + n % 64)
rows3 n h k (inl s) = go (split n 0x1000) (split n 0xD000)
  where
    go : (n < 0x1000) ⊎ (0x1000 ≤ n) → (n < 0xD000) ⊎ (0xD000 ≤ n) → Rows3 (0xE0 + n / 4096) (0x80 + n / 64 % 64) (0x80 + n % 64)
    go (inl p) q = inl (inl (inl (omega arith)))
    go (inr p) (inl q) = inl (inl (inr (omega arith)))
    go (inr p) (inr q) = inl (inr (omega arith))
rows3 n h k (inr s) = inr (omega arith)

rows4 : (n : ℕ) → 0x10000 ≤ n → n < 0x110000 → Rows4 (0xF0 + n / 262144) (0x80 + n / 4096 % 64) (0x80 + n / 64 % 64) (0x80 + n % 64)
rows4 n h k = go (split n 0x40000) (split n 0x100000)
  where
    go : (n < 0x40000) ⊎ (0x40000 ≤ n) → (n < 0x100000) ⊎ (0x100000 ≤ n)
        → Rows4 (0xF0 + n / 262144) (0x80 + n / 4096 % 64) (0x80 + n / 64 % 64) (0x80 + n % 64)
    go (inl p) q = inl (inl (omega arith))
    go (inr p) (inl q) = inl (inr (omega arith))
    go (inr p) (inr q) = inr (omega arith)

module _ (n : ℕ) (bs : List ℕ) where
  passes1 : n < 0x80 → is_utf8 (encode n ++ bs) ≡ is_utf8 bs
  passes1 h = rw (encode1 n h) (ok1 n bs (ascii n h))

  passes2 : 0x80 ≤ n → n < 0x800 → is_utf8 (encode n ++ bs) ≡ is_utf8 bs
  passes2 h k =
      let a : ℕ = 0xC0 + n / 64 in
      let b : ℕ = 0x80 + n % 64 in
      rw (encode2 n h k) (ok2 a b (not_ascii a (omega arith)) bs ((two_means a b).1 (omega arith)))

  passes3 : 0x800 ≤ n → n < 0x10000 → Scalar n → is_utf8 (encode n ++ bs) ≡ is_utf8 bs
  passes3 h k s =
      let a : ℕ = 0xE0 + n / 4096 in
      let b : ℕ = 0x80 + n / 64 % 64 in
      let c : ℕ = 0x80 + n % 64 in
      rw (encode3 n h k) (ok3 a b (not_ascii a (omega arith)) c (no_two a b (omega arith)) bs ((three_means a b c).1 (rows3 n h k s)))

  passes4 : 0x10000 ≤ n → n < 0x110000 → is_utf8 (encode n ++ bs) ≡ is_utf8 bs
  passes4 h k =
      let a : ℕ = 0xF0 + n / 262144 in
      let b : ℕ = 0x80 + n / 4096 % 64 in
      let c : ℕ = 0x80 + n / 64 % 64 in
      let d : ℕ = 0x80 + n % 64 in
      rw (encode4 n h)
      (ok4 a b (not_ascii a (omega arith)) c (no_two a b (omega arith)) d (no_three a b c (omega arith)) bs ((four_means a b c d).1 (rows4 n h k)))

  passes : Scalar n → is_utf8 (encode n ++ bs) ≡ is_utf8 bs
  passes s = go (split n 0x80) (split n 0x800) (split n 0x10000)
    where
      go : (n < 0x80) ⊎ (0x80 ≤ n) → (n < 0x800) ⊎ (0x800 ≤ n) → (n < 0x10000) ⊎ (0x10000 ≤ n) → is_utf8 (encode n ++ bs) ≡ is_utf8 bs
      go (inl p) q r = passes1 p
      go (inr p) (inl q) r = passes2 p q
      go (inr p) (inr q) (inl r) = passes3 q r s
      go (inr p) (inr q) (inr r) = passes4 r (scalar_top n s)

pub all_means : (n : ℕ) (ns : List ℕ) → all_scalar (n ∷ ns) ≡ true ↔ Scalar n × (all_scalar ns ≡ true)
unfolding all_scalar
all_means n ns = and_means (scalar_means n) (test_means (all_scalar ns))

complete : (ns : List ℕ) → all_scalar ns ≡ true → is_utf8 (encode_all ns) ≡ true
unfolding encode_all is_utf8
complete [] h = refl
complete (n ∷ ns) h = let k = (all_means n ns).0 h in passes n (encode_all ns) k.0 ∙ complete ns k.1

-- ---- what passes is an encoding

module _ (bs : List ℕ) (u : Utf8 bs) where
  -- the scalar value n, with the octets cs, in front
  put : (n : ℕ) (cs : List ℕ) → Scalar n → encode n ≡ cs → Utf8 (cs ++ bs)
  unfolding encode_all
  put n cs s e =
      subst (λ (t : List ℕ). Utf8 (t ++ bs)) e
      (record { scalars = n ∷ u.scalars; right = (all_means n u.scalars).1 (s, u.right); octets = ap (λ (t : List ℕ). encode n ++ t) u.octets })

  put1 : (a : ℕ) → a < 0x80 → Utf8 (a ∷ bs)
  put1 a h = put a (a ∷ []) (inl (omega arith)) (encode1 a h)

  put2 : (a b : ℕ) → Row2 0xC2 0xDF 0x80 0xBF a b → Utf8 (a ∷ b ∷ bs)
  put2 a b h =
      let n : ℕ = (a - 0xC0) * 64 + (b - 0x80) in
      let p : 0xC0 + n / 64 ≡ a = omega arith in
      let q : 0x80 + n % 64 ≡ b = omega arith in
      put n (a ∷ b ∷ []) (inl (omega arith)) (encode2 n (omega arith) (omega arith) ∙ (λ i. p i ∷ q i ∷ []))

  put3 : (a b c : ℕ) → Rows3 a b c → Utf8 (a ∷ b ∷ c ∷ bs)
  put3 a b c = go
    where
      n : ℕ
      n = (a - 0xE0) * 4096 + (b - 0x80) * 64 + (c - 0x80)

      made : Row3 0xE0 0xEF 0x80 0xBF a b c → 0x800 ≤ n → Scalar n → Utf8 (a ∷ b ∷ c ∷ bs)
      made h l s =
          let p : 0xE0 + n / 4096 ≡ a = omega arith in
          let q : 0x80 + n / 64 % 64 ≡ b = omega arith in
          let r : 0x80 + n % 64 ≡ c = omega arith in
          put n (a ∷ b ∷ c ∷ []) s (encode3 n l (omega arith) ∙ (λ i. p i ∷ q i ∷ r i ∷ []))

      go : Rows3 a b c → Utf8 (a ∷ b ∷ c ∷ bs)
      go (inl (inl (inl r))) = made (omega arith) (omega arith) (inl (omega arith))
      go (inl (inl (inr r))) = made (omega arith) (omega arith) (inl (omega arith))
      go (inl (inr r)) = made (omega arith) (omega arith) (inl (omega arith))
      go (inr r) = made (omega arith) (omega arith) (inr (omega arith))

  put4 : (a b c d : ℕ) → Rows4 a b c d → Utf8 (a ∷ b ∷ c ∷ d ∷ bs)
  put4 a b c d = go
    where
      n : ℕ
      n = (a - 0xF0) * 262144 + (b - 0x80) * 4096 + (c - 0x80) * 64 + (d - 0x80)

      made : Row4 0xF0 0xF4 0x80 0xBF a b c d → In 0x10000 0x10FFFF n → Utf8 (a ∷ b ∷ c ∷ d ∷ bs)
      made h l =
          let p : 0xF0 + n / 262144 ≡ a = omega arith in
          let q : 0x80 + n / 4096 % 64 ≡ b = omega arith in
          let r : 0x80 + n / 64 % 64 ≡ c = omega arith in
          let s : 0x80 + n % 64 ≡ d = omega arith in
          put n (a ∷ b ∷ c ∷ d ∷ []) (inr (omega arith)) (encode4 n l.0 ∙ (λ i. p i ∷ q i ∷ r i ∷ s i ∷ []))

      go : Rows4 a b c d → Utf8 (a ∷ b ∷ c ∷ d ∷ bs)
      go (inl (inl r)) = made (omega arith) (omega arith)
      go (inl (inr r)) = made (omega arith) (omega arith)
      go (inr r) = made (omega arith) (omega arith)

abbrev Judged : List ℕ → Type 0
Judged bs = is_utf8 bs ≡ true → Utf8 bs

-- a list that begins with a, where the lists up to length k are done; stepk: no shorter character than of k bytes is there
module _ (k : ℕ) (shorter : (bs : List ℕ) → length bs ≤ k → Judged bs) (a : ℕ) where
  module _ (not1 : utf8_1 a ≡ false) where
    module _ (b : ℕ) (not2 : utf8_2 a b ≡ false) where
      step4 : (c : ℕ) → utf8_3 a b c ≡ false → (d : ℕ) (bs : List ℕ) (t : Bool) → utf8_4 a b c d ≡ t → length bs ≤ k
          → Judged (a ∷ b ∷ c ∷ d ∷ bs)
      step4 c not3 d bs true e h ok =
          put4 bs (shorter bs h (sym (ok4 a b not1 c not2 d not3 bs e) ∙ ok)) a b c d ((four_means a b c d).0 e)
      step4 c not3 d bs false e h ok = absurd (clash (sym (bad4 a b not1 c not2 d not3 bs e) ∙ ok))

      step3 : (c : ℕ) (bs : List ℕ) (t : Bool) → utf8_3 a b c ≡ t → length bs ≤ k → Judged (a ∷ b ∷ c ∷ bs)
      step3 c bs true e h ok = put3 bs (shorter bs h (sym (ok3 a b not1 c not2 bs e) ∙ ok)) a b c ((three_means a b c).0 e)
      step3 c [] false e h ok = absurd (clash (sym (bad3 a b not1 c not2 e) ∙ ok))
      step3 c (d ∷ bs) false e h ok = step4 c e d bs (utf8_4 a b c d) refl (omega arith) ok

    step2 : (b : ℕ) (bs : List ℕ) (t : Bool) → utf8_2 a b ≡ t → length bs ≤ k → Judged (a ∷ b ∷ bs)
    step2 b bs true e h ok = put2 bs (shorter bs h (sym (ok2 a b not1 bs e) ∙ ok)) a b ((two_means a b).0 e)
    step2 b [] false e h ok = absurd (clash (sym (bad2 a b not1 e) ∙ ok))
    step2 b (c ∷ bs) false e h ok = step3 b e c bs (utf8_3 a b c) refl (omega arith) ok

  step1 : (bs : List ℕ) → (a < 0x80) ⊎ (0x80 ≤ a) → length bs ≤ k → Judged (a ∷ bs)
  step1 bs (inl p) h ok = put1 bs (shorter bs h (sym (ok1 a bs (ascii a p)) ∙ ok)) a p
  step1 [] (inr p) h ok = absurd (clash (sym (bad1 a (not_ascii a p)) ∙ ok))
  step1 (b ∷ bs) (inr p) h ok = step2 (not_ascii a p) b bs (utf8_2 a b) refl (omega arith) ok

empty : Utf8 []
unfolding all_scalar encode_all
empty = record { scalars = []; right = refl; octets = refl }

sound : (k : ℕ) (bs : List ℕ) → length bs ≤ k → Judged bs
sound zero [] h ok = empty
sound zero (a ∷ bs) h ok = absurd (not-suc-le-zero h)
sound (suc k) [] h ok = empty
sound (suc k) (a ∷ bs) h ok = step1 k (sound k) a bs (split a 0x80) (le_of_suc-le-suc h) ok

pub utf8_means : (bs : List ℕ) → is_utf8 bs ≡ true ↔ Utf8 bs
utf8_means bs = (sound (length bs) bs (omega arith), λ u. ap is_utf8 (sym u.octets) ∙ complete u.scalars u.right)
