-- The theorems `encoded_decodes`, that the encodings of scalar values decode to just these, and `utf16_means`, that what any units decode to is
-- the one way to read them as encodings and unpaired surrogates (specs/Utf16Form.antt). They stand last.
-- Assumes nothing.
use Rattle.std.proofs.Common.{◌≡◌, ℕ, zero, suc, ◌+◌, ◌-◌, ◌*◌, ◌/◌, ◌%◌, ◌<◌, ◌≤◌, Bool, true, false, cond, ◌⊎◌, ◌↔◌, List, [], ◌∷◌, ◌++◌, map, get_or, sym, refl, ap, ◌∙◌, subst, inl, inr, arith, le-ltb, lt-ltb}
use Rattle.bits.specs.Bits.{Bytes}
use Rattle.util.specs.Range.{range}
use Rattle.util.specs.Utf16.{units, Char, scalar, unpaired, is_pair, alone, decode, text_of, kept_of, utf16_text}
use Rattle.util.specs.Utf8.{all_scalar}
use Rattle.util.specs.Utf16Form.{Units, encode16, encode16_all, Reads, none, value, lone}
use Rattle.util.proofs.Rows.{clash, split, In, Scalar, and_means, range_means, past, below, scalar_means, scalar_top}
use Rattle.util.proofs.Text.{decode_pair, decode_alone, last_alone}
use Rattle.util.proofs.Utf8Means.{all_means}

-- ---- tests

pair_means : (u v : ℕ) → is_pair u v ≡ true ↔ In 0xD800 0xDBFF u × In 0xDC00 0xDFFF v
unfolding is_pair
pair_means u v = and_means (range_means 0xD800 0xDBFF u) (range_means 0xDC00 0xDFFF v)

-- a scalar value is no surrogate
no_surrogate : (last n : ℕ) → last ≤ 0xDFFF → Scalar n → range 0xD800 last n ≡ false
no_surrogate last n h (inl s) = below 0xD800 last n (omega arith)
no_surrogate last n h (inr s) = past 0xD800 last n (omega arith)

no_pair : (n v : ℕ) → Scalar n → is_pair n v ≡ false
unfolding is_pair
no_pair n v s = rw (no_surrogate 0xDBFF n (omega arith) s)

alone_scalar : (n : ℕ) → Scalar n → alone n ≡ scalar n
unfolding alone
alone_scalar n s = rw (no_surrogate 0xDFFF n (omega arith) s)

-- ---- an encoding decodes to its scalar value

one_unit : (n : ℕ) → n < 0x10000 → encode16 n ≡ n ∷ []
unfolding encode16
one_unit n h = rw (lt-ltb n 0x10000 h)

two_units : (n : ℕ) → 0x10000 ≤ n → encode16 n ≡ (0xD800 + (n - 0x10000) / 0x400) ∷ (0xDC00 + (n - 0x10000) % 0x400) ∷ []
unfolding encode16
two_units n h = rw (le-ltb n 0x10000 h)

decodes : (n : ℕ) (us : List ℕ) → Scalar n → decode (encode16 n ++ us) ≡ scalar n ∷ decode us
decodes n us s = go (split n 0x10000)
  where
    go : (n < 0x10000) ⊎ (0x10000 ≤ n) → decode (encode16 n ++ us) ≡ scalar n ∷ decode us
    go (inl h) = rw (one_unit n h) (decode_alone n us (no_pair n (get_or us 0 0) s) ∙ ap (λ (c : Char). c ∷ decode us) (alone_scalar n s))
    go (inr h) =
        let k = scalar_top n s in
        let u : ℕ = 0xD800 + (n - 0x10000) / 0x400 in
        let v : ℕ = 0xDC00 + (n - 0x10000) % 0x400 in
        let is : 0x10000 + (u - 0xD800) * 0x400 + (v - 0xDC00) ≡ n = omega arith in
        rw (two_units n h) (decode_pair u v us ((pair_means u v).1 (omega arith)) ∙ ap (λ (m : ℕ). scalar m ∷ decode us) is)

-- ---- any units

alone_lone : (u : ℕ) → range 0xD800 0xDFFF u ≡ true → alone u ≡ unpaired
unfolding alone
alone_lone u h = rw h

-- what units read as is what they decode to
reads_decode : {us : List ℕ} {xs : List Char} → Reads us xs → decode us ≡ xs
unfolding decode
reads_decode none = refl
reads_decode (value {n} {us} {xs} s r) = decodes n us ((scalar_means n).0 s) ∙ ap (λ (t : List Char). scalar n ∷ t) (reads_decode r)
reads_decode (lone {u} {us} {xs} s p r) = decode_alone u us p ∙ ap (λ (c : Char). c ∷ decode us) (alone_lone u s) ∙ ap (λ (t : List Char). unpaired ∷ t) (reads_decode r)

-- a unit that makes no pair with the next
reads_one : (u : ℕ) (us : List ℕ) (xs : List Char) → u < 0x10000 → is_pair u (get_or us 0 0) ≡ false → Reads us xs → Reads (u ∷ us) (alone u ∷ xs)
unfolding alone
reads_one u us xs h p r = go (range 0xD800 0xDFFF u) refl
  where
    plain : range 0xD800 0xDFFF u ≡ false → (u < 0xD800) ⊎ (0xD800 ≤ u) → (u < 0xE000) ⊎ (0xE000 ≤ u) → Scalar u
    plain e (inl a) b = inl (omega arith)
    plain e (inr a) (inl b) = absurd (clash (sym e ∙ (range_means 0xD800 0xDFFF u).1 (omega arith)))
    plain e (inr a) (inr b) = inr (omega arith)

    go : (t : Bool) → range 0xD800 0xDFFF u ≡ t → Reads (u ∷ us) (cond t unpaired (scalar u) ∷ xs)
    go true e = lone e p r
    go false e = subst (λ (t : List ℕ). Reads (t ++ us) (scalar u ∷ xs)) (one_unit u h) (value ((scalar_means u).1 (plain e (split u 0xD800) (split u 0xE000))) r)

reads_pair : (u v : ℕ) (us : List ℕ) (xs : List Char) → is_pair u v ≡ true → Reads us xs
    → Reads (u ∷ v ∷ us) (scalar (0x10000 + (u - 0xD800) * 0x400 + (v - 0xDC00)) ∷ xs)
reads_pair u v us xs h r =
    let k = (pair_means u v).0 h in
    let n : ℕ = 0x10000 + (u - 0xD800) * 0x400 + (v - 0xDC00) in
    let high : 0xD800 + (n - 0x10000) / 0x400 ≡ u = omega arith in
    let low : 0xDC00 + (n - 0x10000) % 0x400 ≡ v = omega arith in
    subst (λ (t : List ℕ). Reads (t ++ us) (scalar n ∷ xs)) (two_units n (omega arith) ∙ (λ i. high i ∷ low i ∷ [])) (value ((scalar_means n).1 (inr (omega arith))) r)

decode_reads : (us : List ℕ) → Units us → Reads us (decode us)
unfolding decode
decode_reads [] h = none
decode_reads (u ∷ []) h = reads_one u [] [] (h 0) (last_alone u) none
decode_reads (u ∷ v ∷ us) h = go (is_pair u v) refl (decode_reads us (λ i. h (suc (suc i)))) (decode_reads (v ∷ us) (λ i. h (suc i)))
  where
    go : (t : Bool) → is_pair u v ≡ t → Reads us (decode us) → Reads (v ∷ us) (decode (v ∷ us))
        → Reads (u ∷ v ∷ us) (cond t (scalar (0x10000 + (u - 0xD800) * 0x400 + (v - 0xDC00)) ∷ decode us) (alone u ∷ decode (v ∷ us)))
    go true e r s = reads_pair u v us (decode us) e r
    go false e r s = reads_one u (v ∷ us) (decode (v ∷ us)) (h 0) e s

-- ---- the theorems

-- scalar values, encoded one after the other, decode to just these
pub encoded_decodes : (ns : List ℕ) → all_scalar ns ≡ true → decode (encode16_all ns) ≡ map scalar ns
unfolding encode16_all decode
encoded_decodes [] h = refl
encoded_decodes (n ∷ ns) h = let k = (all_means n ns).0 h in decodes n (encode16_all ns) k.0 ∙ ap (λ (t : List Char). scalar n ∷ t) (encoded_decodes ns k.1)

-- any units have one reading, which is what they decode to
pub utf16_means : (us : List ℕ) (xs : List Char) → Units us → Reads us xs ↔ decode us ≡ xs
utf16_means us xs h = (reads_decode, λ e. subst (Reads us) e (decode_reads us h))

-- the units of bytes are units, so that this holds for every text
pub units_of_bytes : (bs : List ℕ) → Bytes bs → Units (units bs)
units_of_bytes [] h i = omega arith
units_of_bytes (a ∷ []) h i = omega arith
units_of_bytes (a ∷ b ∷ bs) h zero = let x = h 0 in let y = h 1 in omega arith
units_of_bytes (a ∷ b ∷ bs) h (suc i) = units_of_bytes bs (λ j. h (suc (suc j))) i

-- and the text of bytes is what is kept of their units' reading
pub text_means : (bs : List ℕ) (xs : List Char) → Reads (units bs) xs → utf16_text bs ≡ kept_of xs
unfolding text_of
text_means bs xs r = ap kept_of (reads_decode r)
