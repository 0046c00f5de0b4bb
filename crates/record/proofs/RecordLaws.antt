-- The bytes that the record's fields make, one law for each payload, as the code computes them.
-- Assumes nothing.
use Prim.Native.Nat.{ℕ, zero, suc, ◌+◌, ◌*◌, ◌/◌, ◌%◌, ◌<◌, ◌≤◌}
use mathlib.Core.Path.{◌≡◌, refl, sym, ◌∙◌}
use mathlib.Core.List.{List, [], ◌∷◌, ◌++◌}
use native.Mathlib.Omega.{arith}
use lib.ListN.{length, get_or}
use mathlib.Core.Bool.{Bool, true, false}
use mir.Syntax.{w8, w16, w32}
use mir.Val.{SFits, of_z as cast_unsigned, bool_byte as from_bool}
use Rattle.std.specs.Prelude.{ℤ, pos, negsuc}
use Rattle.std.specs.Int.{to_be_bytes}
use Rattle.std.proofs.lemmas.Nat.{be_bytes_2, be_bytes_4}
use Rattle.bits.specs.Bits.{Bytes, flag, twos}
use Rattle.bits.specs.Fields.{Field, ◌∶◌, z, zz, zzz, pack}
use Rattle.bits.proofs.LawsFields.{cons, pack_run, pack_length, pack_append, pack_front}
use Rattle.record.specs.Record.{head_of, map_fields, rank_fields}

-- ---- the head

pub head_bytes : (tag offset L : ℕ) (fs : List Field) → tag < 256
    → pack (head_of tag offset L ++ fs) ≡ tag ∷ (offset / 32 % 256) ∷ (offset % 32 * 8 + L / 32 % 8) ∷ (L % 32 * 8) ∷ pack fs
head_bytes tag offset L fs h =
    pack_run _ ∙ cons (omega arith) (cons (omega arith) (cons (omega arith) (cons (omega arith) (sym (pack_run fs)))))

pub head_append : (tag offset L : ℕ) (fs : List Field) → pack (head_of tag offset L ++ fs) ≡ pack (head_of tag offset L) ++ pack fs
head_append tag offset L fs = pack_append (head_of tag offset L) fs refl

pub head_length_lem : (tag offset L : ℕ) → length (pack (head_of tag offset L)) ≡ 4
head_length_lem tag offset L = pack_length (head_of tag offset L)

-- ---- std's conversions, in document 01's words

pub bit_of : (b : Bool) {n : ℕ} → n ≡ from_bool b → (n ≡ flag b) × (n ≤ 1)
bit_of true e = (e, omega arith)
bit_of false e = (e, omega arith)

pub byte_twos : (m : ℤ) → SFits w8 m → cast_unsigned w8 m ≡ twos m
byte_twos (pos n) f = refl
byte_twos (negsuc n) f = refl

byte_pair : (a b : ℕ) → a < 256 → b < 256 → Bytes (a ∷ b ∷ [])
byte_pair a b h k zero = h
byte_pair a b h k (suc zero) = k
byte_pair a b h k (suc (suc i)) = omega arith

pub wide_be : (n : ℕ) → n < 65536 → {l : List ℕ} → l ≡ to_be_bytes w16 n → l ≡ (n / 256) ∷ (n % 256) ∷ []
wide_be n h e = e ∙ be_bytes_2 ((n / 256) ∷ (n % 256) ∷ []) n refl (byte_pair _ _ (omega arith) (omega arith)) (omega arith)

byte_four : (a b c d : ℕ) → a < 256 → b < 256 → c < 256 → d < 256 → Bytes (a ∷ b ∷ c ∷ d ∷ [])
byte_four a b c d h k l m zero = h
byte_four a b c d h k l m (suc i) = three i
  where
    three : (i : ℕ) → get_or (b ∷ c ∷ d ∷ []) i 0 < 256
    three zero = k
    three (suc i) = byte_pair c d l m i

pub long_be : (n : ℕ) → n < 4294967296 → {l : List ℕ} → l ≡ to_be_bytes w32 n
    → l ≡ (n / 16777216) ∷ (n / 65536 % 256) ∷ (n / 256 % 256) ∷ (n % 256) ∷ []
long_be n h e =
    e
    ∙ be_bytes_4 ((n / 16777216) ∷ (n / 65536 % 256) ∷ (n / 256 % 256) ∷ (n % 256) ∷ []) n refl
    (byte_four _ _ _ _ (omega arith) (omega arith) (omega arith) (omega arith)) (omega arith)

-- ---- the payloads. A flag is 0 or 1, and of any other number its low bits stand.

pub adapter_bytes : (d n : ℕ) → d ≤ 1 → pack (d ∶ 1 ∷ z ∷ n ∶ 6 ∷ []) ≡ (d * 128 + n % 64) ∷ []
adapter_bytes d n h = pack_run _ ∙ cons (omega arith) refl

pub six_bytes : (n : ℕ) (fs : List Field) → pack (zz ∷ n ∶ 6 ∷ fs) ≡ n % 64 ∷ pack fs
six_bytes n fs = pack_run _ ∙ cons (omega arith) (sym (pack_run fs))

pub lane_bytes : (s d n o : ℕ) → s ≤ 1 → d ≤ 1 → pack (s ∶ 1 ∷ d ∶ 1 ∷ n ∶ 6 ∷ zz ∷ o ∶ 6 ∷ []) ≡ (s * 128 + d * 64 + n % 64) ∷ o % 64 ∷ []
lane_bytes s d n o hs hd = pack_run _ ∙ cons (omega arith) (cons (omega arith) refl)

pub pcie_bytes : (n f d : ℕ) → pack (n ∶ 6 ∷ f ∶ 3 ∷ d ∶ 5 ∷ zz ∷ []) ≡ (n % 64 * 4 + f % 8 / 2) ∷ (f % 2 * 128 + d % 32 * 4) ∷ []
pcie_bytes n f d = pack_run _ ∙ cons (omega arith) (cons (omega arith) refl)

pub byte_bytes : (n : ℕ) → n < 256 → pack (n ∶ 8 ∷ []) ≡ n ∷ []
byte_bytes n h = pack_run _ ∙ cons (omega arith) refl

pub two_bytes : (a b : ℕ) → a < 256 → b < 256 → pack (a ∶ 8 ∷ b ∶ 8 ∷ []) ≡ a ∷ b ∷ []
two_bytes a b ha hb = pack_front a _ ha ∙ cons refl (byte_bytes b hb)

pub product_bytes : (a b v p c d t r : ℕ) → a < 256 → b < 256 → v < 65536 → p < 65536 → c < 256 → d < 256 → t < 4294967296 → r < 256
    → pack (a ∶ 8 ∷ b ∶ 8 ∷ v ∶ 16 ∷ p ∶ 16 ∷ c ∶ 8 ∷ d ∶ 8 ∷ t ∶ 32 ∷ r ∶ 8 ∷ [])
    ≡ a ∷ b ∷ (v / 256) ∷ (v % 256) ∷ (p / 256) ∷ (p % 256) ∷ c ∷ d ∷ (t / 16777216) ∷ (t / 65536 % 256) ∷ (t / 256 % 256) ∷ (t % 256) ∷ r ∷ []
product_bytes a b v p c d t r ha hb hv hp hc hd ht hr =
    pack_run _
    ∙ cons (omega arith) (cons (omega arith) (cons (omega arith) (cons (omega arith) (cons (omega arith) (cons (omega arith) (cons (omega arith)
    (cons (omega arith) (cons (omega arith) (cons (omega arith) (cons (omega arith) (cons (omega arith) (cons (omega arith) refl))))))))))))

pub wide_bytes : (x : ℕ) (fs : List Field) → x < 65536 → pack (x ∶ 16 ∷ fs) ≡ (x / 256) ∷ (x % 256) ∷ pack fs
wide_bytes x fs h = pack_run _ ∙ cons (omega arith) (cons (omega arith) (sym (pack_run fs)))

pub dptx_bytes : (a m n o u : ℕ) (fs : List Field) → m ≤ 1
    → pack (a ∶ 5 ∷ m ∶ 1 ∷ zz ∷ n ∶ 4 ∷ o ∶ 3 ∷ z ∷ zzz ∷ u ∶ 5 ∷ fs) ≡ (a % 32 * 8 + m * 4) ∷ (n % 16 * 16 + o % 8 * 2) ∷ u % 32 ∷ pack fs
dptx_bytes a m n o u fs h = pack_run _ ∙ cons (omega arith) (cons (omega arith) (cons (omega arith) (sym (pack_run fs))))

pub link_bytes : (n : ℕ) → pack (zzz ∷ n ∶ 5 ∷ []) ≡ n % 32 ∷ []
link_bytes n = pack_run _ ∙ cons (omega arith) refl

-- ---- a map, and a rank

-- `omega` takes the quotients of one number apart one at a time, and not together
weigh2 : {a b x y : ℕ} → a ≡ x → b ≡ y → ((0 * 4 + a) * 2 + b) * 32 + 0 ≡ x * 64 + y * 32
weigh2 p q = omega arith

weigh4 : {a b c d x y z t : ℕ} → a ≡ x → b ≡ y → c ≡ z → d ≡ t → (((0 * 2 + a) * 4 + b) * 2 + c) * 16 + d ≡ x * 128 + y * 32 + z * 16 + t
weigh4 p q r s = omega arith

pub map_bytes : (m0 m1 m2 : ℕ) (ms : List ℕ) → m1 < 256 → m2 < 256
    → pack (map_fields (m0 ∷ m1 ∷ m2 ∷ ms))
    ≡ (m0 % 16 * 16 + m1 % 32 / 2) ∷ (m1 % 2 * 128 + m1 / 32 % 4 * 32 + m1 / 128 * 16 + m2 % 64 / 4) ∷ (m2 % 4 * 64 + m2 / 128 * 32) ∷ pack (map_fields ms)
unfolding map_fields
map_bytes m0 m1 m2 ms h1 h2 =
    pack_run _
    ∙ cons (omega arith) (cons (weigh4 (omega arith) (omega arith) (omega arith) (omega arith)) (cons (weigh2 (omega arith) (omega arith)) (sym (pack_run _))))

pub rank_bytes : (b : ℕ) (bs : List ℕ) → b < 256 → pack (rank_fields (b ∷ bs)) ≡ (b % 32 * 8 + b / 32) ∷ pack (rank_fields bs)
unfolding rank_fields
rank_bytes b bs h = pack_run _ ∙ cons (omega arith) (sym (pack_run _))
