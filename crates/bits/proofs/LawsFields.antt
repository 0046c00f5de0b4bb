-- How fields become bytes. `pack_run` gives the bytes of fields whose widths are written out, each as an expression of the fields' numbers.
-- The other laws say how many bytes there are, and how bytes of fields go together.
use Prim.Native.Nat.{ℕ, zero, suc, ◌+◌, ◌*◌, ◌-◌, ◌/◌, ◌%◌, ◌^◌, ◌<◌, ◌≤◌}
use mathlib.Core.Bool.{Bool, true, false, cond}
use mathlib.Core.List.{List, [], ◌∷◌, ◌++◌, append_assoc, append-nil}
use mathlib.Core.Path.{◌≡◌, refl, sym, ap, ap₂, ◌∙◌}
use native.Mathlib.Decide.{dec_lt}
use native.Mathlib.Nat.{zero-add, suc-add, add_comm, add-mul, mul_assoc, mul_comm, pow-succ', add-sub_of_le, mod-eq_of_lt}
use native.Mathlib.Numerals.{one-add}
use native.Mathlib.Omega.{arith}
use borrow.Author.Tests.{leb-true, leb-false, eqb-true}
use lib.Dec.{leb, eqb}
use lib.ListN.{length, get_or, take, drop, length-append, length-take, get_or-eq_default}
use lib.Pow.{mod-pow-add, shr-shr}
use lib.Seq.{get_or-take, get_or-drop}
use Rattle.bits.specs.Bits.{Bytes}
use Rattle.bits.specs.Fields.{Field, ◌∶◌, byte_fields, bits_of, all_bits, gather, pack}

-- Two lists of which heads and tails are equal: `pack_run _ ∙ cons (omega arith) (cons (omega arith) refl)` shows two bytes.
pub cons : {a b : ℕ} {l m : List ℕ} → a ≡ b → l ≡ m → a ∷ l ≡ b ∷ m
cons p q = ap₂ (λ (x : ℕ) (t : List ℕ). x ∷ t) p q

-- ---- a field in its byte

double : (v a : ℕ) → v * 2 ^ suc a ≡ 2 * v * 2 ^ a
double v a = ap (λ (k : ℕ). v * k) (pow-succ' 2 a) ∙ sym (mul_assoc v 2 (2 ^ a)) ∙ ap (λ (k : ℕ). k * 2 ^ a) (mul_comm v 2)

-- one bit more
grow : (v x a : ℕ) → (2 * v + x / 2 ^ a % 2) * 2 ^ a + x % 2 ^ a ≡ v * 2 ^ suc a + x % 2 ^ suc a
grow v x a =
    let m : x % 2 ^ suc a ≡ (x / 2 ^ a % 2) * 2 ^ a + x % 2 ^ a = rw one-add at (mod-pow-add x 1 a) in
    let d : (2 * v + x / 2 ^ a % 2) * 2 ^ a ≡ 2 * v * 2 ^ a + (x / 2 ^ a % 2) * 2 ^ a = add-mul (2 * v) (x / 2 ^ a % 2) (2 ^ a) in
    omega (arith, double v a)

-- a field that leaves its byte open
within : (w k v x : ℕ) (rest : List ℕ) → gather v (w + k) (bits_of x w ++ rest) ≡ gather (v * 2 ^ w + x % 2 ^ w) k rest
unfolding bits_of gather
within zero k v x rest = ap₂ (λ (i j : ℕ). gather i j rest) (omega arith) (zero-add k)
within (suc w) k v x rest =
    ap (λ (i : ℕ). gather v i (bits_of x (suc w) ++ rest)) (suc-add w k)
    ∙ within w k (2 * v + x / 2 ^ w % 2) x rest
    ∙ ap (λ (j : ℕ). gather j k rest) (grow v x w)

-- a field that fills its byte
full : (k v x : ℕ) (rest : List ℕ) → gather v k (bits_of x (suc k) ++ rest) ≡ (v * 2 ^ suc k + x % 2 ^ suc k) ∷ gather 0 7 rest
unfolding bits_of gather
full zero v x rest = cons (omega arith) refl
full (suc k) v x rest = full k (2 * v + x / 2 ^ suc k % 2) x rest ∙ cons (grow v x (suc k)) refl

-- a number's high bits, and then its low bits
bits_split : (a b x : ℕ) → bits_of x (a + b) ≡ bits_of (x / 2 ^ b) a ++ bits_of x b
unfolding bits_of
bits_split zero b x = ap (bits_of x) (zero-add b)
bits_split (suc a) b x =
    ap (bits_of x) (suc-add a b)
    ∙ cons (ap (λ (i : ℕ). x / 2 ^ i % 2) (add_comm a b) ∙ ap (λ (h : ℕ). h % 2) (sym (shr-shr x b a))) (bits_split a b x)

-- ---- the bytes of fields, computed

-- One field, of width `w` and number `x`, where `more` bits are wanted after the next and `v` is what the bits before have made:
-- it stays within its byte, or fills it, or fills it and goes on. `rest` is the bits behind it, `next` the bytes that those make.
-- The first argument is how many bytes more it may reach into.
abbrev pub put_field : ℕ → List ℕ → (ℕ → ℕ → List ℕ) → ℕ → ℕ → ℕ → ℕ → List ℕ
put_field zero rest next v more x w = gather v more (bits_of x w ++ rest)
put_field (suc n) rest next v more x w =
    cond (leb w more) (next (v * 2 ^ w + x % 2 ^ w) (more - w))
    (cond (eqb w (suc more)) ((v * 2 ^ suc more + x % 2 ^ suc more) ∷ next 0 7)
    ((v * 2 ^ suc more + x / 2 ^ (w - suc more) % 2 ^ suc more) ∷ put_field n rest next 0 7 x (w - suc more)))

-- `pack`, a field at a time. It computes where the widths are written out and at most 32, also in front of fields that are not known.
abbrev pub run : List Field → ℕ → ℕ → List ℕ
run [] v more = []
run (x ∶ w ∷ fs) v more = put_field 5 (all_bits fs) (run fs) v more x w

module _ (rest : List ℕ) (next : ℕ → ℕ → List ℕ) (ih : (v k : ℕ) → gather v k rest ≡ next v k) (x : ℕ) where
  fills : (k v w : ℕ) (t : Bool) → eqb w (suc k) ≡ t → k < w → (l : List ℕ) → gather 0 7 (bits_of x (w - suc k) ++ rest) ≡ l
      → gather v k (bits_of x w ++ rest)
      ≡ cond t ((v * 2 ^ suc k + x % 2 ^ suc k) ∷ next 0 7) ((v * 2 ^ suc k + x / 2 ^ (w - suc k) % 2 ^ suc k) ∷ l)
  fills k v w true e h l q =
      ap (λ (i : ℕ). gather v k (bits_of x i ++ rest)) (eqb-true w (suc k) e) ∙ full k v x rest ∙ cons refl (ih 0 7)
  fills k v w false e h l q =
      let d : ℕ = w - suc k in
      ap (λ (i : ℕ). gather v k (bits_of x i ++ rest)) (sym (add-sub_of_le h))
      ∙ ap (gather v k) (ap (λ (t : List ℕ). t ++ rest) (bits_split (suc k) d x) ∙ append_assoc (bits_of (x / 2 ^ d) (suc k)) (bits_of x d) rest)
      ∙ full k v (x / 2 ^ d) (bits_of x d ++ rest)
      ∙ cons refl q

  goes : (k v w : ℕ) (t : Bool) → leb w k ≡ t → (l : List ℕ) → gather 0 7 (bits_of x (w - suc k) ++ rest) ≡ l
      → gather v k (bits_of x w ++ rest)
      ≡ cond t (next (v * 2 ^ w + x % 2 ^ w) (k - w))
      (cond (eqb w (suc k)) ((v * 2 ^ suc k + x % 2 ^ suc k) ∷ next 0 7) ((v * 2 ^ suc k + x / 2 ^ (w - suc k) % 2 ^ suc k) ∷ l))
  goes k v w true e l q =
      ap (λ (i : ℕ). gather v i (bits_of x w ++ rest)) (sym (add-sub_of_le (leb-true w k e)))
      ∙ within w (k - w) v x rest ∙ ih (v * 2 ^ w + x % 2 ^ w) (k - w)
  goes k v w false e l q = fills k v w (eqb w (suc k)) refl (leb-false w k e) l q

  reaches : (n k v w : ℕ) → gather v k (bits_of x w ++ rest) ≡ put_field n rest next v k x w
  reaches zero k v w = refl
  reaches (suc n) k v w = goes k v w (leb w k) refl (put_field n rest next 0 7 x (w - suc k)) (reaches n 7 0 (w - suc k))

runs : (fs : List Field) (v k : ℕ) → gather v k (all_bits fs) ≡ run fs v k
unfolding all_bits gather
runs [] v k = refl
runs (x ∶ w ∷ fs) v k = reaches (all_bits fs) (run fs) (runs fs) x 5 k v w

-- The bytes of fields, computed a field at a time.
pub pack_run : (fs : List Field) → pack fs ≡ run fs 0 7
unfolding pack
pack_run fs = runs fs 0 7

-- ---- how many bytes

-- How many bits fields have.
abbrev pub widths : List Field → ℕ
widths [] = 0
widths (x ∶ w ∷ fs) = w + widths fs

bits_length : (x w : ℕ) → length (bits_of x w) ≡ w
unfolding bits_of
bits_length x zero = refl
bits_length x (suc w) = ap suc (bits_length x w)

all_length : (fs : List Field) → length (all_bits fs) ≡ widths fs
unfolding all_bits
all_length [] = refl
all_length (x ∶ w ∷ fs) = length-append (bits_of x w) (all_bits fs) ∙ ap₂ (λ (a b : ℕ). a + b) (bits_length x w) (all_length fs)

gather_length : (v k : ℕ) → k ≤ 7 → (l : List ℕ) → length (gather v k l) ≡ (length l + (7 - k)) / 8
unfolding gather
gather_length v k h [] = omega arith
gather_length v zero h (b ∷ l) = ap suc (gather_length 0 7 (omega arith) l) ∙ omega arith
gather_length v (suc k) h (b ∷ l) = gather_length (2 * v + b) k (omega arith) l ∙ omega arith

-- One byte for each eight bits.
pub pack_length : (fs : List Field) → length (pack fs) ≡ widths fs / 8
unfolding pack
pack_length fs = gather_length 0 7 (omega arith) (all_bits fs) ∙ omega (arith, all_length fs)

-- ---- fields behind fields

all_append : (fs gs : List Field) → all_bits (fs ++ gs) ≡ all_bits fs ++ all_bits gs
unfolding all_bits
all_append [] gs = refl
all_append (x ∶ w ∷ fs) gs = ap (λ (l : List ℕ). bits_of x w ++ l) (all_append fs gs) ∙ sym (append_assoc (bits_of x w) (all_bits fs) (all_bits gs))

gather_append : (v k : ℕ) → k ≤ 7 → (k ≡ 7 → v ≡ 0) → (l m : List ℕ) → (length l + (7 - k)) % 8 ≡ 0
    → gather v k (l ++ m) ≡ gather v k l ++ gather 0 7 m
unfolding gather
gather_append v k h s [] m e = let last : k ≡ 7 = omega arith in ap₂ (λ (i j : ℕ). gather i j m) (s last) last
gather_append v zero h s (b ∷ l) m e = cons refl (gather_append 0 7 (omega arith) (λ _. refl) l m (omega arith))
gather_append v (suc k) h s (b ∷ l) m e = gather_append (2 * v + b) k (omega arith) (λ q. omega arith) l m (omega arith)

-- Fields that fill whole bytes: their bytes come first, and then those of the fields behind them. With written widths the premise is `refl`.
pub pack_append : (fs gs : List Field) → widths fs % 8 ≡ 0 → pack (fs ++ gs) ≡ pack fs ++ pack gs
unfolding pack
pack_append fs gs e =
    ap (gather 0 7) (all_append fs gs) ∙ gather_append 0 7 (omega arith) (λ _. refl) (all_bits fs) (all_bits gs) (omega (arith, all_length fs))

pub widths_append : (fs gs : List Field) → widths (fs ++ gs) ≡ widths fs + widths gs
widths_append [] gs = omega arith
widths_append (x ∶ w ∷ fs) gs = omega (arith, widths_append fs gs)

-- ---- no fields, and whole bytes

-- No fields make no bytes.
pub pack_nil : pack [] ≡ []
unfolding pack all_bits gather
pack_nil = refl

-- A field of eight bits in front is that byte.
pub pack_byte : (x : ℕ) (fs : List Field) → pack (x ∶ 8 ∷ fs) ≡ x % 256 ∷ pack fs
unfolding pack all_bits
pack_byte x fs = full 7 0 x (all_bits fs) ∙ cons (omega arith) refl

pub pack_front : (x : ℕ) (fs : List Field) → x < 256 → pack (x ∶ 8 ∷ fs) ≡ x ∷ pack fs
pack_front x fs h = pack_byte x fs ∙ cons (mod-eq_of_lt h) refl

-- Whole bytes in front are those bytes.
pub pack_bytes : (l : List ℕ) → Bytes l → (fs : List Field) → pack (byte_fields l ++ fs) ≡ l ++ pack fs
unfolding byte_fields
pack_bytes [] h fs = refl
pack_bytes (x ∷ l) h fs = pack_front x (byte_fields l ++ fs) (h 0) ∙ cons refl (pack_bytes l (λ i. h (suc i)) fs)

-- Bytes as fields make those bytes.
pub pack_all : (l : List ℕ) → Bytes l → pack (byte_fields l) ≡ l
pack_all l h =
    ap pack (sym (append-nil (byte_fields l))) ∙ pack_bytes l h [] ∙ ap (λ (t : List ℕ). l ++ t) pack_nil ∙ append-nil l

pub widths_bytes : (l : List ℕ) → widths (byte_fields l) ≡ 8 * length l
unfolding byte_fields
widths_bytes [] = refl
widths_bytes (x ∷ l) = omega (arith, widths_bytes l)

-- A part of a list of bytes is one.
pub part_bytes : (l : List ℕ) (n a : ℕ) → Bytes l → Bytes (take n (drop a l))
part_bytes l n a h i = inside (dec_lt i n)
  where
    inside : Dec (i < n) → get_or (take n (drop a l)) i 0 < 256
    inside (yes p) = rw (get_or-take, get_or-drop) (h (a + i))
    inside (no p) = rw (get_or-eq_default (take n (drop a l)) 0 {n = i} (rw length-take (omega (arith, p)))) (omega arith)
