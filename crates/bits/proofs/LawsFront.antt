-- Writing at the front of a lent buffer: a writer that has room, one byte more, and one writer after the other.
use Prim.Native.Nat.{ℕ, suc, ◌+◌, ◌-◌, ◌<◌, ◌≤◌}
use mathlib.Core.List.{List, [], ◌∷◌, ◌++◌, append_assoc, append-nil}
use mathlib.Core.Path.{◌≡◌, refl, sym, ap, ap₂, ◌∙◌}
use native.Mathlib.Nat.{le_refl, zero-add}
use native.Mathlib.Numerals.{add-one}
use native.Mathlib.Omega.{arith}
use borrow.Author.Tests.{le-leb, lt-leb}
use borrow.Author.Rules.{part_to_end}
use lib.ListN.{length, take, drop, set, get_or, length-append, length-drop, drop_of_length-le}
use lib.Seq.{sets, sets-eq, take-suc, take-append_seam, drop-append_seam, drop-drop, drop-cons, set_at, append_snoc}
use Rattle.bits.specs.Front.{onto, Wrote, Put}
use Rattle.bits.proofs.OneAnswer.{one_answer}

-- ---- one writer

-- Nothing was written.
pub wrote_none : {before : List ℕ} → Wrote [] before before 0
wrote_none = record { holds = refl; counts = refl }

-- ---- with room, and without

-- A writer that has room writes all.
pub fitted : {p before after : List ℕ} {n : ℕ} → Put p before after n → length p ≤ length before → Wrote p before after n
fitted {p} {before} w h = rw (le-leb (length p) (length before) h) at w.wrote

-- No second answer meets the promise.
pub put_once : {p before after after' : List ℕ} {n n' : ℕ} → Put p before after n → Put p before after' n' → (after ≡ after') × (n ≡ n')
put_once v w = (one_answer v.wrote.holds w.wrote.holds, one_answer v.wrote.counts w.wrote.counts)

-- How a writer keeps its promise: with room by writing all, and without by writing nothing.
pub puts : {p before after : List ℕ} {n : ℕ} → length p ≤ length before → Wrote p before after n → Put p before after n
puts {p} {before} h w = record { wrote = rw (le-leb (length p) (length before) h) w }

pub puts_none : (p before : List ℕ) → length before < length p → Put p before before 0
puts_none p before h = record { wrote = rw (lt-leb (length p) (length before) h) wrote_none }

-- Bytes that are stored one after the other, from index 0 on.
pub puts_sets : (p before : List ℕ) → length p ≤ length before → Put p before (sets before 0 p) (length p)
puts_sets p before h = puts h (record { holds = sets-eq p before 0 (omega arith) ∙ rw zero-add; counts = refl })

-- ---- one byte more

-- One byte more, behind those that were written.
pub wrote_more : {p before after : List ℕ} {n : ℕ} (a : ℕ) → Wrote p before after n → n < length before
    → Wrote (p ++ (a ∷ [])) before (set after n a) (n + 1)
wrote_more {p} {before} {after} {n} a w h =
    let e : length p ≡ n = sym w.counts in
    let l : length (p ++ (a ∷ [])) ≡ suc n = length-append p (a ∷ []) ∙ (omega arith) in
    record {
      holds =
          ap (λ (t : List ℕ). set t n a) w.holds
          ∙ ap (λ (t : List ℕ). set (p ++ t) n a) (ap (λ (k : ℕ). drop k before) e ∙ drop-cons before n 0 h)
          ∙ set_at p (get_or before n 0) (drop (suc n) before) a n e
          ∙ sym (append_snoc p a (drop (suc n) before))
          ∙ ap (λ (k : ℕ). (p ++ (a ∷ [])) ++ drop k before) (sym l);
      counts = add-one n ∙ sym l;
    }

-- A turn of a loop that copies `src`.
pub wrote_next : (src : List ℕ) {before after : List ℕ} {n : ℕ} → Wrote (take n src) before after n → n < length src → n < length before
    → Wrote (take (n + 1) src) before (set after n (get_or src n 0)) (n + 1)
wrote_next src {n = n} w h r = rw (add-one n, take-suc src n 0 h) (rw (add-one n) at (wrote_more (get_or src n 0) w r))

-- ---- one writer after the other
-- The part that `&mut out[a..]` lends is `take (length out - a) (drop a out)`, and when it comes back as `part`
-- the buffer is `take a out ++ (part ++ drop (length out - a) (drop a out))`.

none_left : (l : List ℕ) (a : ℕ) → drop (length l - a) (drop a l) ≡ []
none_left l a = drop_of_length-le (drop a l) {i = length l - a} (rw length-drop (le_refl _))

behind : (p q d : List ℕ) → take (length p) (onto p d) ++ onto q (drop (length p) (onto p d)) ≡ onto (p ++ q) d
behind p q d = simp (take-append_seam, drop-append_seam, drop-drop, append_assoc, length-append)

-- A writer, and then another on the part behind what the first wrote.
pub follows : {p q before out part : List ℕ} {n m : ℕ} (a : ℕ) → a ≡ length p → Wrote p before out n
    → Wrote q (take (length out - a) (drop a out)) part m
    → Wrote (p ++ q) before (take a out ++ (part ++ drop (length out - a) (drop a out))) (a + m)
follows {p} {q} {before} {out} {part} a e w v = record {
  holds =
      ap (λ (l : List ℕ). take a out ++ (part ++ l)) (none_left out a)
      ∙ ap (λ (l : List ℕ). take a out ++ l) (append-nil part ∙ v.holds ∙ ap (onto q) (part_to_end out a))
      ∙ ap₂ (λ (s l : List ℕ). s ++ onto q l) (ap₂ take e w.holds) (ap₂ drop e w.holds)
      ∙ behind p q before;
  counts = ap₂ (λ (i j : ℕ). i + j) e v.counts ∙ sym (length-append p q);
}

-- ---- what was written is within the buffer

pub wrote_le : {p before after : List ℕ} {n : ℕ} → Wrote p before after n → n ≤ length after
wrote_le {p} {before} {after} {n} w = omega (arith, simp length-append at (ap length w.holds))

pub put_le : {p before after : List ℕ} {n : ℕ} → Put p before after n → n ≤ length after
put_le w = wrote_le w.wrote
