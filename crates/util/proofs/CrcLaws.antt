-- The laws of the two checksums: in pieces as in one; a single-bit step is linear; a byte by CRC32_TABLE; eight bytes by CRC32_ROWS.
-- Assumes nothing.
use Rattle.std.proofs.Common.{◌≡◌, ℕ, zero, suc, ◌+◌, ◌*◌, ◌/◌, ◌%◌, ◌^◌, ◌<◌, ◌≤◌, cond, T, eqb, List, [], ◌∷◌, ◌++◌, length, get_or, take, drop, take-append-drop, take_all, length-drop, length-take, drop-drop, sym, refl, ap, ◌∙◌, ap₂, mod-lt, mod-eq_of_lt, div-add-mod', arith, lit<, drop_of_length-le, drop-cons}
use Rattle.std.proofs.lemmas.List.{take-take}
use Rattle.std.specs.List.{fold}
use lib.Bits.{bit_xor, differ, xor_comm, xor_zero_r, xor_shifted, xor_shr, xor_mod, shifted_half, shifted_even}
use Rattle.util.specs.Crc.{times, over, bit_of32, byte_of32}
use Rattle.util.specs.Tables.{Stepped, Rowed}
use Rattle.util.proofs.Table.{every, ruled}
use Rattle.util.proofs.Xor.{xor_assoc, xor_half, xor_odd, xor_four}

-- a checksum over two pieces goes on from the first
pub over_append : (f : ℕ → ℕ → ℕ) (c : ℕ) (xs ys : List ℕ) → over f c (xs ++ ys) ≡ over f (over f c xs) ys
over_append f c [] ys = refl
over_append f c (x ∷ xs) ys = over_append f (f c x) xs ys

-- it is a fold
pub from_fold : (f : ℕ → ℕ → ℕ) (c r : ℕ) (xs : List ℕ) → r ≡ fold f c xs → r ≡ over f c xs
from_fold f c r [] e = e
from_fold f c r (x ∷ xs) e = from_fold f (f c x) r xs e

pub times_add : (f : ℕ → ℕ) (m n x : ℕ) → times (m + n) f x ≡ times n f (times m f x)
times_add f zero n x = let e : zero + n ≡ n = omega arith in ap (λ (k : ℕ). times k f x) e
times_add f (suc m) n x = let e : suc m + n ≡ suc (m + n) = omega arith in ap (λ (k : ℕ). times k f x) e ∙ times_add f m n (f x)

-- the step with its bit as a factor
pub bit_is : (c : ℕ) → bit_of32 c ≡ bit_xor (c / 2) (c % 2 * 0x82F63B78)
unfolding bit_of32
bit_is c = go (c % 2) (omega arith)
  where
    go : (b : ℕ) → b < 2 → cond (eqb b 1) (bit_xor (c / 2) 0x82F63B78) (c / 2) ≡ bit_xor (c / 2) (b * 0x82F63B78)
    go zero h = sym (xor_zero_r (c / 2))
    go (suc zero) h = refl
    go (suc (suc b)) h = absurd (omega arith)

poly : (x y : ℕ) → x < 2 → y < 2 → differ x y * 0x82F63B78 ≡ bit_xor (x * 0x82F63B78) (y * 0x82F63B78)
poly zero zero h k = refl
poly zero (suc zero) h k = refl
poly zero (suc (suc y)) h k = absurd (omega arith)
poly (suc zero) zero h k = refl
poly (suc zero) (suc zero) h k = refl
poly (suc zero) (suc (suc y)) h k = absurd (omega arith)
poly (suc (suc x)) y h k = absurd (omega arith)

-- a step of an exclusive-or is the exclusive-or of the steps
pub bit_xor_lem : (a b : ℕ) → bit_of32 (bit_xor a b) ≡ bit_xor (bit_of32 a) (bit_of32 b)
bit_xor_lem a b =
    bit_is (bit_xor a b)
    ∙ ap₂ bit_xor (xor_half a b)
    (ap (λ (x : ℕ). x * 0x82F63B78) (xor_odd a b) ∙ poly (a % 2) (b % 2) (omega arith) (omega arith))
    ∙ xor_four (a / 2) (b / 2) (a % 2 * 0x82F63B78) (b % 2 * 0x82F63B78)
    ∙ sym (ap₂ bit_xor (bit_is a) (bit_is b))

times_xor : (n a b : ℕ) → times n bit_of32 (bit_xor a b) ≡ bit_xor (times n bit_of32 a) (times n bit_of32 b)
times_xor zero a b = refl
times_xor (suc n) a b = ap (times n bit_of32) (bit_xor_lem a b) ∙ times_xor n (bit_of32 a) (bit_of32 b)

halved : (n h : ℕ) → bit_of32 (h * 2 ^ suc n) ≡ h * 2 ^ n
halved n h =
    bit_is (h * 2 ^ suc n)
    ∙ ap₂ (λ (x y : ℕ). bit_xor x (y * 0x82F63B78)) (shifted_half h n) (shifted_even h n)
    ∙ xor_zero_r (h * 2 ^ n)

-- n steps take away n zero bits
pub times_shifted : (n h : ℕ) → times n bit_of32 (h * 2 ^ n) ≡ h
times_shifted zero h = omega arith
times_shifted (suc n) h = ap (times n bit_of32) (halved n h) ∙ times_shifted n h

-- the low n bits go by themselves, and n steps only move the others down
pub apart : (n m x : ℕ) → 0 < 2 ^ n → times (n + m) bit_of32 x ≡ bit_xor (times m bit_of32 (x / 2 ^ n)) (times (n + m) bit_of32 (x % 2 ^ n))
apart n m x h =
    ap (times (n + m) bit_of32) (sym (xor_shifted (x / 2 ^ n) n (x % 2 ^ n) (mod-lt x h) ∙ div-add-mod' x (2 ^ n)))
    ∙ times_xor (n + m) (x / 2 ^ n * 2 ^ n) (x % 2 ^ n)
    ∙ ap (λ (y : ℕ). bit_xor y (times (n + m) bit_of32 (x % 2 ^ n)))
    (times_add bit_of32 n m (x / 2 ^ n * 2 ^ n) ∙ ap (times m bit_of32) (times_shifted n (x / 2 ^ n)))

-- a byte by CRC32_TABLE
pub by_table : (c b : ℕ) → b < 256 → byte_of32 c b ≡ bit_xor (c / 256) (times 8 bit_of32 (bit_xor c b % 256))
unfolding byte_of32
by_table c b h =
    let none : b / 256 ≡ 0 = omega arith in
    apart 8 0 (bit_xor c b) (lit< tt)
    ∙ ap (λ (y : ℕ). bit_xor y (times 8 bit_of32 (bit_xor c b % 256)))
    (xor_shr c b 8 ∙ ap (bit_xor (c / 256)) none ∙ xor_zero_r (c / 256))

-- a byte, with k bytes after it, by two rows of CRC32_ROWS
pub by_rows : (t : List ℕ) → Rowed t → (k b : ℕ) → k < 8 → b < 256
    → bit_xor (get_or t (k * 32 + b / 16) 0) (get_or t (k * 32 + 16 + b % 16) 0) ≡ times (suc k * 8) bit_of32 b
by_rows t ok k b hk hb =
    let high : k * 32 + b / 16 ≡ k * 2 * 16 + b / 16 = omega arith in
    let low : k * 32 + 16 + b % 16 ≡ suc (k * 2) * 16 + b % 16 = omega arith in
    let steps : 4 + suc (k * 2) * 4 ≡ suc (suc (k * 2)) * 4 = omega arith in
    let all : 4 + suc (k * 2) * 4 ≡ suc k * 8 = omega arith in
    ap₂ bit_xor (ap (λ (j : ℕ). get_or t j 0) high ∙ ok (k * 2) (b / 16) (omega arith) (omega arith))
    (ap (λ (j : ℕ). get_or t j 0) low ∙ ok (suc (k * 2)) (b % 16) (omega arith) (omega arith) ∙ ap (λ (n : ℕ). times n bit_of32 (b % 16)) (sym steps))
    ∙ sym (apart 4 (suc (k * 2) * 4) b (lit< tt))
    ∙ ap (λ (n : ℕ). times n bit_of32 b) all

byte_xor : (c d b : ℕ) → byte_of32 (bit_xor c d) b ≡ bit_xor (byte_of32 c b) (times 8 bit_of32 d)
unfolding byte_of32
byte_xor c d b =
    ap (times 8 bit_of32) (xor_assoc c d b ∙ ap (bit_xor c) (xor_comm d b) ∙ sym (xor_assoc c b d))
    ∙ times_xor 8 (bit_xor c b) d

-- what is in the register besides c goes through by itself
over_xor : (c d : ℕ) (bs : List ℕ) → over byte_of32 (bit_xor c d) bs ≡ bit_xor (over byte_of32 c bs) (times (length bs * 8) bit_of32 d)
over_xor c d [] = refl
over_xor c d (b ∷ bs) =
    let e : 8 + length bs * 8 ≡ suc (length bs) * 8 = omega arith in
    ap (λ (x : ℕ). over byte_of32 x bs) (byte_xor c d b)
    ∙ over_xor (byte_of32 c b) (times 8 bit_of32 d) bs
    ∙ ap (bit_xor (over byte_of32 (byte_of32 c b) bs)) (sym (times_add bit_of32 8 (length bs * 8) d) ∙ ap (λ (n : ℕ). times n bit_of32 d) e)

-- a first byte by itself: v is its steps and those of the bytes after it, r what these come to without it
pub first_byte : (c b v r : ℕ) (bs : List ℕ) → b < 256 → v ≡ times (suc (length bs) * 8) bit_of32 (bit_xor (c % 256) b) → over byte_of32 (c / 256) bs ≡ r
    → over byte_of32 c (b ∷ bs) ≡ bit_xor r v
first_byte c b v r bs h ev er =
    let e : 8 + length bs * 8 ≡ suc (length bs) * 8 = omega arith in
    let low : bit_xor c b % 256 ≡ bit_xor (c % 256) b = xor_mod c b 8 ∙ ap (bit_xor (c % 256)) (mod-eq_of_lt h) in
    ap (λ (x : ℕ). over byte_of32 x bs) (by_table c b h)
    ∙ over_xor (c / 256) (times 8 bit_of32 (bit_xor c b % 256)) bs
    ∙ ap₂ bit_xor er
    (sym (times_add bit_of32 8 (length bs * 8) (bit_xor c b % 256))
    ∙ ap₂ (λ (n x : ℕ). times n bit_of32 x) e low
    ∙ sym ev)

-- the rules of the two tables, each by one test of all its entries
pub stepped : (t : List ℕ) → T (every (λ (k x : ℕ). eqb x (times 8 bit_of32 k)) 0 t) → length t ≡ 256 → Stepped t
unfolding Stepped
stepped t passes n k h = ruled (times 8 bit_of32) t passes k (omega arith)

abbrev row_rule : ℕ → ℕ
row_rule k = times (suc (k / 16) * 4) bit_of32 (k % 16)

pub rowed : (t : List ℕ) → T (every (λ (k x : ℕ). eqb x (row_rule k)) 0 t) → length t ≡ 256 → Rowed t
rowed t passes len r n hr hn =
    let row : (r * 16 + n) / 16 ≡ r = omega arith in
    let place : (r * 16 + n) % 16 ≡ n = omega arith in
    ruled row_rule t passes (r * 16 + n) (omega arith)
    ∙ ap₂ (λ (i j : ℕ). times (suc i * 4) bit_of32 j) row place

-- the n elements from i on, written out
abbrev pub listed : ℕ → ℕ → List ℕ → List ℕ
listed zero i xs = []
listed (suc n) i xs = get_or xs i 0 ∷ listed n (suc i) xs

pub listed_all : (n i : ℕ) (xs : List ℕ) → i + n ≡ length xs → listed n i xs ≡ drop i xs
listed_all zero i xs h = let past : length xs ≤ i = omega arith in sym (drop_of_length-le xs past)
listed_all (suc n) i xs h = ap (λ (t : List ℕ). get_or xs i 0 ∷ t) (listed_all n (suc i) xs (omega arith)) ∙ sym (drop-cons xs i 0 (omega arith))

-- eight bytes, each by itself
pub eight : (c b0 b1 b2 b3 b4 b5 b6 b7 v0 v1 v2 v3 v4 v5 v6 v7 : ℕ) → c < 2 ^ 32
    → b0 < 256 → b1 < 256 → b2 < 256 → b3 < 256 → b4 < 256 → b5 < 256 → b6 < 256 → b7 < 256
    → v0 ≡ times 64 bit_of32 (bit_xor (c % 256) b0) → v1 ≡ times 56 bit_of32 (bit_xor (c / 256 % 256) b1)
    → v2 ≡ times 48 bit_of32 (bit_xor (c / 256 / 256 % 256) b2) → v3 ≡ times 40 bit_of32 (bit_xor (c / 256 / 256 / 256 % 256) b3)
    → v4 ≡ times 32 bit_of32 b4 → v5 ≡ times 24 bit_of32 b5 → v6 ≡ times 16 bit_of32 b6 → v7 ≡ times 8 bit_of32 b7
    → bit_xor (bit_xor (bit_xor (bit_xor (bit_xor (bit_xor (bit_xor v7 v6) v5) v4) v3) v2) v1) v0 ≡ over byte_of32 c (b0 ∷ b1 ∷ b2 ∷ b3 ∷ b4 ∷ b5 ∷ b6 ∷ b7 ∷ [])
eight c b0 b1 b2 b3 b4 b5 b6 b7 v0 v1 v2 v3 v4 v5 v6 v7 hc h0 h1 h2 h3 h4 h5 h6 h7 e0 e1 e2 e3 e4 e5 e6 e7 =
    let none : c / 256 / 256 / 256 / 256 ≡ 0 = omega arith in
    sym
    (first_byte c b0 v0 _ (b1 ∷ b2 ∷ b3 ∷ b4 ∷ b5 ∷ b6 ∷ b7 ∷ []) h0 e0
    (first_byte (c / 256) b1 v1 _ (b2 ∷ b3 ∷ b4 ∷ b5 ∷ b6 ∷ b7 ∷ []) h1 e1
    (first_byte (c / 256 / 256) b2 v2 _ (b3 ∷ b4 ∷ b5 ∷ b6 ∷ b7 ∷ []) h2 e2
    (first_byte (c / 256 / 256 / 256) b3 v3 _ (b4 ∷ b5 ∷ b6 ∷ b7 ∷ []) h3 e3
    (ap (λ (x : ℕ). over byte_of32 x (b4 ∷ b5 ∷ b6 ∷ b7 ∷ [])) none
    ∙ first_byte 0 b4 v4 _ (b5 ∷ b6 ∷ b7 ∷ []) h4 e4
    (first_byte 0 b5 v5 _ (b6 ∷ b7 ∷ []) h5 e5 (first_byte 0 b6 v6 _ (b7 ∷ []) h6 e6 (first_byte 0 b7 v7 0 [] h7 e7 refl))))))))

-- a loop that takes n bytes at a time, from i
pub over_part : (f : ℕ → ℕ → ℕ) (n i c d : ℕ) (bs : List ℕ) → d ≡ over f c (take n (drop i bs)) → over f d (drop (i + n) bs) ≡ over f c (drop i bs)
over_part f n i c d bs ed =
    ap₂ (over f) ed (sym (drop-drop n i bs))
    ∙ sym (over_append f c (take n (drop i bs)) (drop n (drop i bs)))
    ∙ ap (over f c) (take-append-drop n (drop i bs))

-- for `by_eight`, whose parts are a slice's first eight bytes
pub ruleset parts = (over_part, take_all, take-take, length-drop, length-take)
