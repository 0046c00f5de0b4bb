-- The theorems `crc_means`, that the register of specs/Crc.antt comes to RFC 3720's checksum (specs/Rfc3720.antt) for all bytes, and
-- `remainder_means`, that the long division there finds the one remainder. They stand last.
-- While the message is divided, what is still to be divided is the register's bits, added to the bits that are still to come and 32 zeros:
-- a step of the division is a step of the register.
-- Assumes nothing.
use Rattle.std.proofs.Common.{◌≡◌, ℕ, zero, suc, ◌+◌, ◌-◌, ◌*◌, ◌/◌, ◌%◌, ◌^◌, ◌<◌, ◌≤◌, Bool, true, false, cond, not, eqb, ◌↔◌, List, [], ◌∷◌, ◌++◌, map, length, take, drop, replicate, sym, refl, ap, ◌∙◌, subst, ap₂, le_of_suc-le-suc, not-suc-le-zero, div-add-mod', zero-add, arith, lit<, lit≤, length-append}
use mathlib.Core.Bool.{xor}
use lib.ListN.{length-replicate}
use lib.Bits.{bit_xor, differ, xor_comm, xor_zero_r, xor_lt, xor_shifted}
use Rattle.bits.specs.Bits.{Bytes, flag}
use Rattle.util.specs.Crc.{times, over, bit_of32, byte_of32, start32, final32, crc_of32}
use Rattle.util.specs.Rfc3720.{bits_of, number_of, plus, generator, message, complemented, dividend, step, steps, remainder, crc3720, multiple, Remains}
use Rattle.util.proofs.CrcLaws.{bit_is, bit_xor_lem, times_shifted}
use Rattle.util.proofs.Xor.{xor_assoc, xor_half, xor_odd}

-- ---- digits

-- the lowest bit
abbrev odd : ℕ → Bool
odd x = eqb (x % 2) 1

odd_digit : (d : ℕ) → d < 2 → flag (eqb d 1) ≡ d
odd_digit zero h = refl
odd_digit (suc zero) h = refl
odd_digit (suc (suc d)) h = absurd (omega arith)

odd_flag : (x : ℕ) → flag (odd x) ≡ x % 2
odd_flag x = odd_digit (x % 2) (omega arith)

odd_differ : (d e : ℕ) → d < 2 → e < 2 → eqb (differ d e) 1 ≡ xor (eqb d 1) (eqb e 1)
unfolding xor
odd_differ zero zero h k = refl
odd_differ zero (suc zero) h k = refl
odd_differ zero (suc (suc e)) h k = absurd (omega arith)
odd_differ (suc zero) zero h k = refl
odd_differ (suc zero) (suc zero) h k = refl
odd_differ (suc zero) (suc (suc e)) h k = absurd (omega arith)
odd_differ (suc (suc d)) e h k = absurd (omega arith)

odd_xor : (x y : ℕ) → odd (bit_xor x y) ≡ xor (odd x) (odd y)
odd_xor x y = ap (λ (d : ℕ). eqb d 1) (xor_odd x y) ∙ odd_differ (x % 2) (y % 2) (omega arith) (omega arith)

odd_bit : (b : Bool) → odd (flag b) ≡ b
odd_bit true = refl
odd_bit false = refl

half_bit : (b : Bool) → flag b / 2 ≡ 0
half_bit true = refl
half_bit false = refl

xor_false : (a : Bool) → xor a false ≡ a
unfolding xor
xor_false true = refl
xor_false false = refl

false_xor : (a : Bool) → xor false a ≡ a
unfolding xor
false_xor true = refl
false_xor false = refl

true_xor : (a : Bool) → xor true a ≡ not a
unfolding xor
true_xor true = refl
true_xor false = refl

xor_assoc_bool : (a b c : Bool) → xor a (xor b c) ≡ xor (xor a b) c
unfolding xor
xor_assoc_bool true true true = refl
xor_assoc_bool true true false = refl
xor_assoc_bool true false true = refl
xor_assoc_bool true false false = refl
xor_assoc_bool false true true = refl
xor_assoc_bool false true false = refl
xor_assoc_bool false false true = refl
xor_assoc_bool false false false = refl

number_of_bits : (n x : ℕ) → x < 2 ^ n → number_of (bits_of n x) ≡ x
unfolding bits_of number_of
number_of_bits zero x h = omega arith
number_of_bits (suc n) x h = omega (arith, odd_flag x, number_of_bits n (x / 2) (omega arith))

-- ---- sums

plus_assoc : (xs bs cs : List Bool) → plus xs (plus bs cs) ≡ plus (plus xs bs) cs
unfolding plus
plus_assoc [] bs cs = refl
plus_assoc (a ∷ xs) [] cs = refl
plus_assoc (a ∷ xs) (b ∷ bs) [] = refl
plus_assoc (a ∷ xs) (b ∷ bs) (c ∷ cs) = ap₂ ◌∷◌ (xor_assoc_bool a b c) (plus_assoc xs bs cs)

plus_length : (xs bs : List Bool) → length xs ≤ length bs → length (plus xs bs) ≡ length bs
unfolding plus
plus_length [] bs h = refl
plus_length (x ∷ xs) [] h = absurd (not-suc-le-zero h)
plus_length (x ∷ xs) (b ∷ bs) h = ap suc (plus_length xs bs (le_of_suc-le-suc h))

plus_bits : (n x y : ℕ) → plus (bits_of n x) (bits_of n y) ≡ bits_of n (bit_xor x y)
unfolding plus bits_of
plus_bits zero x y = refl
plus_bits (suc n) x y = ap₂ ◌∷◌ (sym (odd_xor x y)) (plus_bits n (x / 2) (y / 2) ∙ ap (bits_of n) (sym (xor_half x y)))

-- a high bit that is zero adds nothing
plus_pad : (n x : ℕ) (cs : List Bool) → x < 2 ^ n → n < length cs → plus (bits_of (suc n) x) cs ≡ plus (bits_of n x) cs
unfolding plus bits_of
plus_pad n x [] h k = absurd (not-suc-le-zero k)
plus_pad zero x (c ∷ cs) h k = let z : x ≡ 0 = omega arith in rw z (ap (λ (b : Bool). b ∷ cs) (false_xor c))
plus_pad (suc n) x (c ∷ cs) h k = ap (λ (t : List Bool). xor (odd x) c ∷ t) (plus_pad n (x / 2) cs (omega arith) (le_of_suc-le-suc k))

plus_zeros : (n x : ℕ) → plus (bits_of n x) (replicate n false) ≡ bits_of n x
unfolding plus bits_of
plus_zeros zero x = refl
plus_zeros (suc n) x = ap₂ ◌∷◌ (xor_false (odd x)) (plus_zeros n (x / 2))

-- a complement is a sum with ones
plus_ones : (n : ℕ) (bs : List Bool) → n ≤ length bs → map not (take n bs) ++ drop n bs ≡ plus (replicate n true) bs
unfolding plus
plus_ones zero bs h = refl
plus_ones (suc n) [] h = absurd (not-suc-le-zero h)
plus_ones (suc n) (b ∷ bs) h = ap₂ ◌∷◌ (sym (true_xor b)) (plus_ones n bs (le_of_suc-le-suc h))

not_bits : (n x : ℕ) → map not (bits_of n x) ≡ plus (replicate n true) (bits_of n x)
unfolding plus bits_of
not_bits zero x = refl
not_bits (suc n) x = ap₂ ◌∷◌ (sym (true_xor (odd x))) (not_bits n (x / 2))

ones : bits_of 32 0xFFFFFFFF ≡ replicate 32 true
unfolding bits_of
ones = refl

-- the reflected polynomial is the generator without its highest power, from x^31 down
generator_is : generator ≡ true ∷ bits_of 32 0x82F63B78
unfolding generator bits_of
generator_is = refl

-- ---- a step of the division is a step of the register

bit_lt : (x : ℕ) → x < 2 ^ 32 → bit_of32 x < 2 ^ 32
bit_lt x h = rw (bit_is x) (xor_lt 32 (x / 2) (x % 2 * 0x82F63B78) (omega arith) (omega arith))

flag_lt : (b : Bool) → flag b < 2 ^ 32
flag_lt true = lit< tt
flag_lt false = lit< tt

-- the register takes in one bit
abbrev takes : ℕ → Bool → ℕ
takes c m = bit_of32 (bit_xor c (flag m))

takes_lt : (c : ℕ) (m : Bool) → c < 2 ^ 32 → takes c m < 2 ^ 32
takes_lt c m h = bit_lt (bit_xor c (flag m)) (xor_lt 32 c (flag m) h (flag_lt m))

takes_is : (c : ℕ) (m : Bool) → takes c m ≡ cond (xor (odd c) m) (bit_xor (c / 2) 0x82F63B78) (c / 2)
unfolding bit_of32
takes_is c m =
    ap₂ (λ (b : Bool) (x : ℕ). cond b (bit_xor x 0x82F63B78) x) (odd_xor c (flag m) ∙ ap (xor (odd c)) (odd_bit m))
    (xor_half c (flag m) ∙ ap (bit_xor (c / 2)) (half_bit m) ∙ xor_zero_r (c / 2))

step_is : (b : Bool) (bs : List Bool) → step (b ∷ bs) ≡ cond b (plus (bits_of 32 0x82F63B78) bs) bs
unfolding step plus xor
step_is true bs = rw generator_is
step_is false bs = refl

-- what is still to be divided, with the register c in it, one step on
divides : (c : ℕ) (m : Bool) (bs : List Bool) → c < 2 ^ 32 → 32 ≤ length bs → step (plus (bits_of 32 c) (m ∷ bs)) ≡ plus (bits_of 32 (takes c m)) bs
unfolding plus bits_of
divides c m bs h k = step_is (xor (odd c) m) (plus (bits_of 31 (c / 2)) bs) ∙ go (xor (odd c) m) ∙ ap (λ (x : ℕ). plus (bits_of 32 x) bs) (sym (takes_is c m))
  where
    padded : plus (bits_of 31 (c / 2)) bs ≡ plus (bits_of 32 (c / 2)) bs
    padded = sym (plus_pad 31 (c / 2) bs (omega arith) k)

    go : (b : Bool) → cond b (plus (bits_of 32 0x82F63B78) (plus (bits_of 31 (c / 2)) bs)) (plus (bits_of 31 (c / 2)) bs) ≡ plus (bits_of 32 (cond b (bit_xor (c / 2) 0x82F63B78) (c / 2))) bs
    go true =
        ap (plus (bits_of 32 0x82F63B78)) padded
        ∙ plus_assoc (bits_of 32 0x82F63B78) (bits_of 32 (c / 2)) bs
        ∙ ap (λ (t : List Bool). plus t bs) (plus_bits 32 0x82F63B78 (c / 2) ∙ ap (bits_of 32) (xor_comm 0x82F63B78 (c / 2)))
    go false = padded

-- ---- all bits of a message

-- the register takes in bits, one after the other
abbrev takes_all : ℕ → List Bool → ℕ
takes_all c [] = c
takes_all c (m ∷ ms) = takes_all (takes c m) ms

takes_all_lt : (c : ℕ) (ms : List Bool) → c < 2 ^ 32 → takes_all c ms < 2 ^ 32
takes_all_lt c [] h = h
takes_all_lt c (m ∷ ms) h = takes_all_lt (takes c m) ms (takes_lt c m h)

raised_length : (ms : List Bool) → length (ms ++ replicate 32 false) ≡ length ms + 32
raised_length ms = length-append ms (replicate 32 false)

-- the division of a message, with the register c already in it
divided : (c : ℕ) (ms : List Bool) → c < 2 ^ 32 → steps (length ms) (plus (bits_of 32 c) (ms ++ replicate 32 false)) ≡ bits_of 32 (takes_all c ms)
unfolding steps
divided c [] h = plus_zeros 32 c
divided c (m ∷ ms) h =
    ap (steps (length ms)) (divides c m (ms ++ replicate 32 false) h (omega (arith, raised_length ms)))
    ∙ divided (takes c m) ms (takes_lt c m h)

-- a byte's lowest bit first, and then the others
low_first : (c b : ℕ) → bit_xor (takes c (odd b)) (b / 2) ≡ bit_of32 (bit_xor c b)
low_first c b =
    ap₂ (λ (x y : ℕ). bit_xor (bit_of32 (bit_xor c x)) y) (odd_flag b) (sym (times_shifted 1 (b / 2)))
    ∙ sym (bit_xor_lem (bit_xor c (b % 2)) (b / 2 * 2))
    ∙ ap bit_of32 (xor_assoc c (b % 2) (b / 2 * 2))
    ∙ ap (λ (x : ℕ). bit_of32 (bit_xor c x)) (xor_comm (b % 2) (b / 2 * 2) ∙ xor_shifted (b / 2) 1 (b % 2) (omega arith) ∙ div-add-mod' b 2)

takes_bits : (n c b : ℕ) (ms : List Bool) → b < 2 ^ n → takes_all c (bits_of n b ++ ms) ≡ takes_all (times n bit_of32 (bit_xor c b)) ms
unfolding bits_of
takes_bits zero c b ms h = let z : b ≡ 0 = omega arith in ap (λ (x : ℕ). takes_all x ms) (sym (ap (bit_xor c) z ∙ xor_zero_r c))
takes_bits (suc n) c b ms h =
    takes_bits n (takes c (odd b)) (b / 2) ms (omega arith) ∙ ap (λ (x : ℕ). takes_all (times n bit_of32 x) ms) (low_first c b)

takes_message : (c : ℕ) (bs : List ℕ) → Bytes bs → takes_all c (message bs) ≡ over byte_of32 c bs
unfolding message byte_of32
takes_message c [] k = refl
takes_message c (b ∷ bs) k = takes_bits 8 c b (message bs) (k 0) ∙ takes_message (byte_of32 c b) bs (λ i. k (suc i))

-- the register after all the bytes, before it is complemented
abbrev register : List ℕ → ℕ
register bs = over byte_of32 start32 bs

register_lt : (bs : List ℕ) → Bytes bs → register bs < 2 ^ 32
register_lt bs k = rw (← takes_message start32 bs k) (takes_all_lt start32 (message bs) (lit< tt))

-- what is divided, as the division starts
dividend_is : (bs : List ℕ) → dividend bs ≡ plus (bits_of 32 start32) (message bs ++ replicate 32 false)
unfolding dividend complemented
dividend_is bs =
    let raised : List Bool = message bs ++ replicate 32 false in
    plus_ones 32 raised (omega (arith, raised_length (message bs))) ∙ ap (λ (t : List Bool). plus t raised) (sym ones)

dividend_length : (bs : List ℕ) → length (dividend bs) ≡ length (message bs) + 32
unfolding bits_of
dividend_length bs =
    let raised : List Bool = message bs ++ replicate 32 false in
    ap length (dividend_is bs)
    ∙ plus_length (bits_of 32 start32) raised (omega (arith, raised_length (message bs)))
    ∙ raised_length (message bs)

-- and as it ends
remainder_is : (bs : List ℕ) → Bytes bs → remainder (dividend bs) ≡ bits_of 32 (register bs)
unfolding remainder
remainder_is bs k =
    let n : length (dividend bs) - 32 ≡ length (message bs) = omega (arith, dividend_length bs) in
    ap₂ steps n (dividend_is bs) ∙ divided start32 (message bs) (lit< tt) ∙ ap (bits_of 32) (takes_message start32 bs k)

-- the complement of 32 coefficients is an exclusive-or with 32 ones
not_32 : (x : ℕ) → map not (bits_of 32 x) ≡ bits_of 32 (bit_xor x 0xFFFFFFFF)
not_32 x =
    not_bits 32 x
    ∙ ap (λ (t : List Bool). plus t (bits_of 32 x)) (sym ones)
    ∙ plus_bits 32 0xFFFFFFFF x
    ∙ ap (bits_of 32) (xor_comm 0xFFFFFFFF x)

-- ---- long division finds the remainder, and there is no other

zeros_plus : (n : ℕ) (bs : List Bool) → n ≤ length bs → plus (replicate n false) bs ≡ bs
unfolding plus
zeros_plus zero bs h = refl
zeros_plus (suc n) [] h = absurd (not-suc-le-zero h)
zeros_plus (suc n) (b ∷ bs) h = ap₂ ◌∷◌ (false_xor b) (zeros_plus n bs (le_of_suc-le-suc h))

nothing : bits_of 32 (bit_xor 0x82F63B78 0x82F63B78) ≡ replicate 32 false
unfolding bits_of
nothing = refl

-- a multiple with one more coefficient in front
shifted : (q : Bool) (qs bs : List Bool) → plus (cond q generator []) (false ∷ plus (multiple qs) bs) ≡ plus (multiple (q ∷ qs)) (false ∷ bs)
unfolding plus xor multiple
shifted q qs bs = plus_assoc (cond q generator []) (false ∷ multiple qs) (false ∷ bs)

-- what is added twice is gone
twice : (bs : List Bool) → 32 ≤ length bs → plus (bits_of 32 0x82F63B78) (plus (bits_of 32 0x82F63B78) bs) ≡ bs
twice bs h =
    plus_assoc (bits_of 32 0x82F63B78) (bits_of 32 0x82F63B78) bs
    ∙ ap (λ (t : List Bool). plus t bs) (plus_bits 32 0x82F63B78 0x82F63B78 ∙ nothing)
    ∙ zeros_plus 32 bs h

-- a step, from what is left after it and the coefficient that it took away
step_back : (b : Bool) (bs : List Bool) → 32 ≤ length bs → plus (cond b generator []) (false ∷ step (b ∷ bs)) ≡ b ∷ bs
unfolding plus xor
step_back true bs h = rw (step_is true bs, generator_is) (ap (λ (t : List Bool). true ∷ t) (twice bs h))
step_back false bs h = rw (step_is false bs)

step_on : (q : Bool) (bs : List Bool) → 32 ≤ length bs → step (plus (cond q generator []) (false ∷ bs)) ≡ bs
unfolding plus xor
step_on true bs h = rw generator_is (step_is true (plus (bits_of 32 0x82F63B78) bs) ∙ twice bs h)
step_on false bs h = step_is false bs

step_length : (b : Bool) (bs : List Bool) → 32 ≤ length bs → length (step (b ∷ bs)) ≡ length bs
unfolding bits_of
step_length true bs h = ap length (step_is true bs) ∙ plus_length (bits_of 32 0x82F63B78) bs h
step_length false bs h = ap length (step_is false bs)

coefficient_length : (q : Bool) → length (cond q generator []) ≤ 33
unfolding bits_of
coefficient_length true = rw generator_is (lit≤ tt)
coefficient_length false = lit≤ tt

multiple_length : (qs : List Bool) → length (multiple qs) ≡ length qs + 32
unfolding multiple
multiple_length [] = refl
multiple_length (q ∷ qs) =
    let rest = multiple_length qs in
    plus_length (cond q generator []) (false ∷ multiple qs) (omega (arith, coefficient_length q, rest)) ∙ omega (arith, rest)

sum_length : (qs rest : List Bool) → length rest ≡ 32 → length (plus (multiple qs) (replicate (length qs) false ++ rest)) ≡ length qs + 32
sum_length qs rest h =
    let low : List Bool = replicate (length qs) false ++ rest in
    let long : length low ≡ length qs + 32 = length-append (replicate (length qs) false) rest ∙ omega (arith, length-replicate {A = Bool} (length qs) false) in
    plus_length (multiple qs) low (omega (arith, multiple_length qs)) ∙ long

found : (n : ℕ) (bs : List Bool) → length bs ≡ n + 32 → Remains bs (steps n bs)
unfolding steps multiple
found zero bs h = record { quotient = []; degree = h ∙ zero-add 32; sum = sym (zeros_plus 32 bs (omega arith)) }
found (suc n) [] h = absurd (omega arith)
found (suc n) (b ∷ bs) h =
    let room : 32 ≤ length bs = omega arith in
    let r = found n (step (b ∷ bs)) (step_length b bs room ∙ omega arith) in
    record {
      quotient = b ∷ r.quotient;
      degree = r.degree;
      sum =
          sym (step_back b bs room)
          ∙ ap (λ (t : List Bool). plus (cond b generator []) (false ∷ t)) r.sum
          ∙ shifted b r.quotient (replicate (length r.quotient) false ++ steps n (step (b ∷ bs)));
    }

unique : (qs rest : List Bool) → length rest ≡ 32 → steps (length qs) (plus (multiple qs) (replicate (length qs) false ++ rest)) ≡ rest
unfolding steps multiple
unique [] rest h = zeros_plus 32 rest (omega arith)
unique (q ∷ qs) rest h =
    let low : List Bool = replicate (length qs) false ++ rest in
    ap (steps (length qs)) (ap step (sym (shifted q qs low)) ∙ step_on q (plus (multiple qs) low) (omega (arith, sum_length qs rest h)))
    ∙ unique qs rest h

-- ---- the theorems

-- of a polynomial with 32 coefficients or more, long division finds the remainder, and there is no other
pub remainder_means : (bs rest : List Bool) → 32 ≤ length bs → Remains bs rest ↔ rest ≡ remainder bs
unfolding remainder
remainder_means bs rest h = (one, λ e. subst (Remains bs) (sym e) (found (length bs - 32) bs (omega arith)))
  where
    one : Remains bs rest → rest ≡ steps (length bs - 32) bs
    one r =
        let long : length bs ≡ length r.quotient + 32 = ap length r.sum ∙ sum_length r.quotient rest r.degree in
        let n : length bs - 32 ≡ length r.quotient = omega (arith, long) in
        sym (ap₂ steps n r.sum ∙ unique r.quotient rest r.degree)

-- CRC-32C by its register is the checksum of RFC 3720
pub crc_means : (bs : List ℕ) → Bytes bs → crc_of32 bs ≡ crc3720 bs
unfolding crc_of32 final32 crc3720
crc_means bs k =
    let c : ℕ = register bs in
    sym (ap number_of (ap (map not) (remainder_is bs k) ∙ not_32 c)
    ∙ number_of_bits 32 (bit_xor c 0xFFFFFFFF) (xor_lt 32 c 0xFFFFFFFF (register_lt bs k) (lit< tt)))

-- and so it is the complement of whatever remains of the division that RFC 3720 asks for
pub crc_remains : (bs : List ℕ) (rest : List Bool) → Bytes bs → Remains (dividend bs) rest → crc_of32 bs ≡ number_of (map not rest)
unfolding crc3720
crc_remains bs rest k r =
    let one : rest ≡ remainder (dividend bs) = (remainder_means (dividend bs) rest (omega (arith, dividend_length bs))).0 r in
    crc_means bs k ∙ ap (λ (t : List Bool). number_of (map not t)) (sym one)
