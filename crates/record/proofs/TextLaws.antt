-- The texts of a record: how long a name and a UTF-16 text are, that a UTF-16 text has bytes, and that its writer does not refuse
-- an even count with room.
-- Assumes nothing.
use Prim.Native.Nat.{ℕ, zero, suc, ◌+◌, ◌-◌, ◌*◌, ◌/◌, ◌%◌, ◌<◌, ◌≤◌}
use mathlib.Core.Path.{◌≡◌, refl}
use mathlib.Core.Bool.{Bool, true, false, cond}
use mathlib.Core.List.{List, [], ◌∷◌, ◌++◌}
use native.Mathlib.Omega.{arith}
use borrow.Author.Tests.{leb-true, le-leb, le-ltb, ne_eqb, eqb-false}
use lib.Dec.{eqb}
use lib.ListN.{length, drop, length-append, length-drop}
use Rattle.bits.specs.Front.{Wrote}
use Rattle.bits.specs.Bits.{Bytes}
use Rattle.util.specs.Range.{range}
use Rattle.util.specs.Utf16.{units, Char, scalar, unpaired, is_pair, alone, decode, kept, kept_of, text_of, utf16_text, utf16_answer, utf16_leaves}
use Rattle.util.proofs.Rows.{and_means}
use Rattle.entry.specs.Names.{before_zero}
use Rattle.std.specs.Prelude.{Ok, Some, None}
use Rattle.entry.specs.declared.refusal.Refusal.TheVariants.{OddUtf16}
use Rattle.entry.specs.Decode.{name_of, utf16_refusal}

-- ---- a name

before_length : (bs : List ℕ) → length (before_zero bs) ≤ length bs
unfolding before_zero
before_length [] = omega arith
before_length (zero ∷ bs) = omega arith
before_length (suc b ∷ bs) = omega (arith, before_length bs)

pub name_length : (bs : List ℕ) → 2 ≤ length bs → 2 + length (name_of bs) ≤ length bs
name_length bs h = omega (arith, before_length (drop 2 bs), length-drop 2 bs)

-- ---- a UTF-16 text has bytes

bytes_none : Bytes []
bytes_none i = omega arith

bytes_cons : (b : ℕ) (l : List ℕ) → b < 256 → Bytes l → Bytes (b ∷ l)
bytes_cons b l h k zero = h
bytes_cons b l h k (suc i) = k i

bytes_append : (l m : List ℕ) → Bytes l → Bytes m → Bytes (l ++ m)
bytes_append [] m h k = k
bytes_append (b ∷ l) m h k = bytes_cons b (l ++ m) (h 0) (bytes_append l m (λ i. h (suc i)) k)

kept_bytes : (x : Char) → Bytes (kept x)
unfolding kept
kept_bytes unpaired = bytes_cons 0x2E [] (omega arith) bytes_none
kept_bytes (scalar n) = go (range 0x21 0x7E n) (λ e. ((and_means (leb-true 0x21 n, le-leb 0x21 n) (leb-true n 0x7E, le-leb n 0x7E)).0 e).1)
  where
    go : (t : Bool) → (t ≡ true → n ≤ 0x7E) → Bytes (cond t (n ∷ []) [])
    go true h = bytes_cons n [] (omega (arith, h refl)) bytes_none
    go false h = bytes_none

kept_all : (xs : List Char) → Bytes (kept_of xs)
unfolding kept_of
kept_all [] = bytes_none
kept_all (x ∷ xs) = bytes_append (kept x) (kept_of xs) (kept_bytes x) (kept_all xs)

pub text_bytes : (bs : List ℕ) → Bytes (utf16_text bs)
unfolding text_of
text_bytes bs = kept_all (decode (units bs))

-- ---- and at most one for each unit

either_length : {A : Type 0} (t : Bool) (l m : List A) {k : ℕ} → length l ≤ k → length m ≤ k → length (cond t l m) ≤ k
either_length true l m h k = h
either_length false l m h k = k

kept_length : (x : Char) → length (kept x) ≤ 1
unfolding kept
kept_length unpaired = omega arith
kept_length (scalar n) = either_length (range 0x21 0x7E n) (n ∷ []) [] (omega arith) (omega arith)

all_length : (xs : List Char) → length (kept_of xs) ≤ length xs
unfolding kept_of
all_length [] = omega arith
all_length (x ∷ xs) = omega (arith, length-append (kept x) (kept_of xs), kept_length x, all_length xs)

decode_length : (us : List ℕ) → length (decode us) ≤ length us
unfolding decode
decode_length [] = omega arith
decode_length (u ∷ []) = omega arith
decode_length (u ∷ v ∷ us) =
    either_length (is_pair u v) (scalar (0x10000 + (u - 0xD800) * 0x400 + (v - 0xDC00)) ∷ decode us) (alone u ∷ decode (v ∷ us))
    (omega (arith, decode_length us)) (omega (arith, decode_length (v ∷ us)))

units_length : (bs : List ℕ) → 2 * length (units bs) ≤ length bs
units_length [] = omega arith
units_length (a ∷ []) = omega arith
units_length (a ∷ b ∷ bs) = omega (arith, units_length bs)

pub text_length : (bs : List ℕ) → 2 * length (utf16_text bs) ≤ length bs
unfolding text_of
text_length bs = omega (arith, all_length (decode (units bs)), decode_length (units bs), units_length bs)

-- ---- its writer

module _ (text : List ℕ) (even : length text % 2 ≡ 0) where
  not_odd : eqb (length text % 2) 1 ≡ false
  not_odd = ne_eqb (length text % 2) 1 (λ e. omega arith)

  module _ (room : ℕ) (enough : length text / 2 ≤ room) where
    pub text_answer : utf16_answer text room ≡ Ok (length (utf16_text text))
    unfolding utf16_answer
    text_answer = rw (not_odd, le-ltb room (length text / 2) enough)

  pub text_wrote : (part : List ℕ) {after : List ℕ} {n : ℕ} → length text / 2 ≤ length part
      → utf16_answer text (length part) ≡ Ok n → after ≡ utf16_leaves text part → Wrote (utf16_text text) part after n
  unfolding utf16_leaves
  text_wrote part {n = n} enough a b =
      let e : n ≡ length (utf16_text text) = cc (text_answer (length part) enough) in
      record { holds = rw (not_odd, le-ltb (length part) (length text / 2) enough) at b; counts = e }

-- A text that is not refused is even.
pub text_even : (text : List ℕ) → utf16_refusal text ≡ None → length text % 2 ≡ 0
text_even text = go (eqb (length text % 2) 1) refl
  where
    go : (t : Bool) → eqb (length text % 2) 1 ≡ t → cond t (Some OddUtf16) None ≡ None → length text % 2 ≡ 0
    go true e h = absurd (cc)
    go false e h = omega (arith, eqb-false (length text % 2) 1 e)
