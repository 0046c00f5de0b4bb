-- Opening: the table of kinds, filled from the list's end, pair by pair.
-- Assumes nothing.
use Prim.Native.Nat.{ℕ, ◌+◌, ◌%◌, ◌≤◌, ◌<◌}
use mathlib.Core.Path.{◌≡◌, refl, sym, ap, ◌∙◌}
use mathlib.Core.List.{List, [], ◌∷◌, ◌++◌, append_assoc, append-nil}
use mathlib.Core.Bool.{cond}
use native.Mathlib.Omega.{arith}
use lib.Dec.{ltb}
use lib.ListN.{length, get_or, set, replicate, length-set, length-append}
use borrow.Author.Tests.{lt-ltb, le-ltb}
use Rattle.feed.specs.Kinds.{table_of}

table_none : table_of [] ≡ replicate 64 0
unfolding table_of
table_none = refl

table_pair : (n k : ℕ) (l : List ℕ) → table_of (n ∷ k ∷ l) ≡ cond (ltb n 64) (set (table_of l) n k) (table_of l)
unfolding table_of
table_pair n k l = refl

-- of the list the pairs behind `rest` are in
pub record Tabled (list kinds rest : List ℕ) : Type 0 where
  pub taken : List ℕ
  pub sum : rest ++ taken ≡ list
  pub is : kinds ≡ table_of taken
  pub even : length rest % 2 ≡ 0
  pub long : length kinds ≡ 64

pub table_start : (list : List ℕ) → length list % 2 ≡ 0 → Tabled list (replicate 64 0) list
table_start list e = record { taken = []; sum = append-nil list; is = sym table_none; even = e; long = refl }

pub table_end : (list kinds rest : List ℕ) → Tabled list kinds rest → length rest < 2 → kinds ≡ table_of list
table_end list kinds [] t h = t.is ∙ ap table_of t.sum
table_end list kinds (n ∷ rest) t h = absurd (omega (arith, t.even))

behind : (rest pair after taken : List ℕ) → length after ≡ 0 → ((rest ++ pair) ++ after) ++ taken ≡ rest ++ (pair ++ taken)
behind rest pair [] taken e = rw append-nil (append_assoc rest pair taken)
behind rest pair (n ∷ after) taken e = absurd (omega arith)

two_of : (pair : List ℕ) → length pair ≡ 2 → pair ≡ get_or pair 0 0 ∷ get_or pair 1 0 ∷ []
two_of (n ∷ k ∷ []) e = refl
two_of [] e = absurd (omega arith)
two_of (n ∷ []) e = absurd (omega arith)
two_of (n ∷ k ∷ m ∷ pair) e = absurd (omega arith)

-- The last pair of `rest` goes in, and `rest'` is left. Behind the last pair of an even count nothing stands.
module _ {list kinds rest rest' : List ℕ} (pair after : List ℕ) (n : ℕ) (is : n ≡ get_or pair 0 0) (t : Tabled list kinds rest) (e : rest ≡ (rest' ++ pair) ++ after) (two : length pair ≡ 2) (odd : length after ≡ length rest % 2) where
  table_by : (kinds' : List ℕ) → kinds' ≡ cond (ltb n 64) (set kinds n (get_or pair 1 0)) kinds → length kinds' ≡ 64 → Tabled list kinds' rest'
  table_by kinds' k long =
      let none : length after ≡ 0 = odd ∙ t.even in
      let same : pair ≡ n ∷ get_or pair 1 0 ∷ [] = rw is (two_of pair two) in
      let counted : length rest ≡ length rest' + 2 = omega (arith, ap length e, length-append (rest' ++ pair) after, length-append rest' pair) in
      record {
        taken = n ∷ get_or pair 1 0 ∷ t.taken;
        sum = ap (λ (p : List ℕ). rest' ++ (p ++ t.taken)) (sym same) ∙ sym (behind rest' pair after t.taken none) ∙ ap (λ (l : List ℕ). l ++ t.taken) (sym e) ∙ t.sum;
        is = k ∙ ap (λ (table : List ℕ). cond (ltb n 64) (set table n (get_or pair 1 0)) table) t.is ∙ sym (table_pair n (get_or pair 1 0) t.taken);
        even = omega (arith, t.even);
        long = long;
      }

  pub table_in : n < 64 → Tabled list (set kinds n (get_or pair 1 0)) rest'
  table_in small = table_by _ (sym (rw (lt-ltb n 64 small))) (length-set kinds n (get_or pair 1 0) ∙ t.long)

  pub table_out : 64 ≤ n → Tabled list kinds rest'
  table_out large = table_by _ (sym (rw (le-ltb n 64 large))) t.long
