-- Numbers to bytes and back, over the width.
-- Assumes nothing.
use Rattle.std.proofs.Common.{◌≡◌, ℕ, zero, suc, ◌+◌, ◌*◌, ◌/◌, ◌%◌, ◌<◌, ◌≤◌, List, [], ◌∷◌, ◌++◌, append_assoc, append-nil, length, get_or, take, drop, refl, sym, ap, ap₂, ◌∙◌, add-zero, arith, suc-add, length-append, length-drop, drop-cons, w32, w64}
use lib.Seq.{drop-length, length-take-le, take_all}
use Rattle.std.proofs.Math.Nat.{div-div-eq-div-mul}
use Rattle.std.specs.Int.{to_le_bytes, from_le_bytes}
use Rattle.bits.specs.Bits.{Bytes}
use Rattle.bits.specs.Front.{Put}
use Rattle.bits.proofs.LawsFields.{part_bytes}
use Rattle.bits.proofs.LawsFront.{fitted}
use Rattle.capi.specs.Bytes.{le, numbers_bytes, number, part, number_at}

-- ---- a number's bytes

pub le_length : (width n : ℕ) → length (le width n) ≡ width
unfolding le
le_length zero n = refl
le_length (suc width) n = ap suc (le_length width (n / 256))

-- as the library writes it
pub le_four : (n : ℕ) → to_le_bytes w32 n ≡ le 4 n
unfolding le
le_four n = simp div-div-eq-div-mul

pub le_eight : (n : ℕ) → to_le_bytes w64 n ≡ le 8 n
unfolding le
le_eight n = simp div-div-eq-div-mul

-- ---- the bytes of numbers

pub numbers_more : (ns : List ℕ) (i : ℕ) → i < length ns → numbers_bytes (take (i + 1) ns) ≡ numbers_bytes (take i ns) ++ le 8 (get_or ns i 0)
unfolding numbers_bytes
numbers_more [] i h = absurd (omega arith)
numbers_more (n ∷ ns) zero h = append-nil (le 8 n)
numbers_more (n ∷ ns) (suc i) h =
    rw suc-add (ap (λ bytes. le 8 n ++ bytes) (numbers_more ns i (omega arith)) ∙ sym (append_assoc (le 8 n) (numbers_bytes (take i ns)) (le 8 (get_or ns i 0))))

pub numbers_length : (ns : List ℕ) → length (numbers_bytes ns) ≡ 8 * length ns
unfolding numbers_bytes
numbers_length [] = refl
numbers_length (n ∷ ns) = length-append (le 8 n) (numbers_bytes ns) ∙ omega (arith, le_length 8 n, numbers_length ns)

-- ---- the number of bytes

-- the number of `width` bytes from `at + i` on, in the bytes themselves: of a written width it computes to a sum
abbrev spelled : ℕ → ℕ → ℕ → List ℕ → ℕ
spelled at i zero bytes = 0
spelled at i (suc width) bytes = spelled at (suc i) width bytes * 256 + get_or bytes (at + i) 0

number_spelled : (at i width : ℕ) (bytes : List ℕ) → at + i + width ≤ length bytes → number_at (at + i) width bytes ≡ spelled at i width bytes
unfolding number
number_spelled at i zero bytes h = refl
number_spelled at i (suc width) bytes h =
    let next : suc (at + i) ≡ at + suc i = omega arith in
    rw (drop-cons bytes (at + i) 0 (omega arith), next, number_spelled at (suc i) width bytes (omega arith))

-- one byte, and four and eight as the library makes a number of them
pub number_one : (at : ℕ) (bytes : List ℕ) → at + 1 ≤ length bytes → get_or bytes at 0 ≡ number_at at 1 bytes
number_one at bytes h = omega (arith, simp add-zero at (number_spelled at 0 1 bytes (omega arith)))

number_all : (bs : List ℕ) (width : ℕ) → length bs ≡ width → number bs ≡ spelled 0 0 width bs
number_all bs width e = ap number (sym (take_all width bs (omega arith))) ∙ number_spelled 0 0 width bs (omega arith)

part_long : (at width : ℕ) (bytes : List ℕ) → at + width ≤ length bytes → length (part at width bytes) ≡ width
part_long at width bytes h = length-take-le width (drop at bytes) (omega (arith, length-drop at bytes))

pub number_four : (at : ℕ) (bytes : List ℕ) → at + 4 ≤ length bytes → from_le_bytes w32 (part at 4 bytes) ≡ number_at at 4 bytes
number_four at bytes h = omega (arith, number_all (part at 4 bytes) 4 (part_long at 4 bytes h))

pub number_eight : (at : ℕ) (bytes : List ℕ) → at + 8 ≤ length bytes → from_le_bytes w64 (part at 8 bytes) ≡ number_at at 8 bytes
number_eight at bytes h = omega (arith, number_all (part at 8 bytes) 8 (part_long at 8 bytes h))

-- ---- and back

-- The number of bytes has these bytes.
le_number : (bytes : List ℕ) → Bytes bytes → le (length bytes) (number bytes) ≡ bytes
unfolding le number
le_number [] k = refl
le_number (b ∷ bs) k =
    let small : b < 256 = k 0 in
    let low : (number bs * 256 + b) % 256 ≡ b = omega arith in
    let high : (number bs * 256 + b) / 256 ≡ number bs = omega arith in
    ap₂ (λ (x : ℕ) (y : ℕ). x ∷ le (length bs) y) low high ∙ ap (λ (l : List ℕ). b ∷ l) (le_number bs (λ i. k (suc i)))

pub le_part : (bytes : List ℕ) → Bytes bytes → (at width : ℕ) → at + width ≤ length bytes → le width (number_at at width bytes) ≡ part at width bytes
le_part bytes k at width h =
    ap (λ (w : ℕ). le w (number (part at width bytes))) (sym (part_long at width bytes h)) ∙ le_number (part at width bytes) (part_bytes bytes width at k)

-- ---- a whole table

-- A copy that fills what it is lent is what was copied.
pub copied : {p before after : List ℕ} {n : ℕ} → Put p before after n → length p ≡ length before → after ≡ p
copied {p} {before} w e =
    (fitted w (omega arith)).holds ∙ ap (λ (l : List ℕ). p ++ l) (ap (λ (k : ℕ). drop k before) e ∙ drop-length before) ∙ append-nil p
