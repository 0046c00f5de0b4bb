-- The bytes of adapters, and of a table of kinds. Both are even in count (`pairs_even`, `from_even`), and the table's bytes give its
-- kinds (`from_at`). A reading depends on an even list by its kinds below 64 only (`report_same`, `leaves_same`), so the table of a
-- list, as bytes, reads as the list does (`table_report`, `table_leaves`); and 5 is told of no slice of adapters (`never_five`). `pairs_on` and `pairs_end`
-- are for the loop of `pairs_of`.
-- Assumes nothing.
use mathlib.Core.Path.{◌≡◌, refl, sym, ap, ◌∙◌}
use mathlib.Core.List.{List, [], ◌∷◌, ◌++◌, append_assoc, append-nil}
use Prim.Native.Nat.{ℕ, zero, suc, ◌+◌, ◌*◌, ◌%◌, ◌<◌, ◌≤◌}
use native.Mathlib.Nat.{not-suc-le-zero}
use native.Mathlib.Omega.{arith}
use borrow.Author.Tests.{eq-eqb, ne_eqb}
use lib.Dec.{ltb, eqb}
use lib.ListN.{length, get_or, set, take, drop, length-set, drop_of_length-le}
use lib.Seq.{drop-cons, take-suc-set, take_all}
use Rattle.entry.specs.Adapters.{kind_in}
use Rattle.drom.specs.Numbers.{first_of, odd_list, small_buffer, too_few}
use Rattle.drom.specs.Header.{header_tests, room_for, body_start}
use Rattle.drom.specs.Report.{refusal_of, walk_in, report_of, records_of, leaves_of}
use Rattle.drom.proofs.NumberLaws.{number_five}
use Rattle.feed.specs.Kinds.{table_of}
use Rattle.feed.proofs.KindLaws.{table_long, table_at, walk_same, Same}
use Rattle.bits.specs.Front.{onto}
use Rattle.listed.specs.declared.Adapter.{Adapter}
use Rattle.listed.specs.Pairs.{pairs_of, pairs_from}

-- ---- the counts

pub pairs_long : (list : List Adapter) → length (pairs_of list) ≡ 2 * length list
unfolding pairs_of
pairs_long [] = refl
pairs_long (a ∷ list) = omega (arith, pairs_long list)

pub from_long : (n : ℕ) (kinds : List ℕ) → length (pairs_from n kinds) ≡ 2 * length kinds
unfolding pairs_from
from_long n [] = refl
from_long n (kind ∷ kinds) = omega (arith, from_long (suc n) kinds)

pub pairs_even : (list : List Adapter) → length (pairs_of list) % 2 ≡ 0
pairs_even list = omega (arith, pairs_long list)

pub from_even : (n : ℕ) (kinds : List ℕ) → length (pairs_from n kinds) % 2 ≡ 0
from_even n kinds = omega (arith, from_long n kinds)

-- "a lent slice of adapter records ..; 5 isn't given there": for every slice, DROM and room
pub never_five : (list : List Adapter) (drom : List ℕ) (room : ℕ) → (report_of (pairs_of list) drom room).number ≡ 5 → ⊥
never_five list drom room five = omega (arith, pairs_even list, (number_five (pairs_of list) drom room).0 five)

-- ---- the kinds of a table's bytes

from_on : (m n : ℕ) (kinds : List ℕ) → m < length kinds → kind_in (pairs_from n kinds) (n + m) ≡ get_or kinds m 0
unfolding pairs_from kind_in
from_on m n [] h = absurd (not-suc-le-zero h)
from_on zero n (kind ∷ kinds) h = let e : n ≡ n + zero = omega arith in rw (eq-eqb n (n + zero) e)
from_on (suc m) n (kind ∷ kinds) h =
    let e : n ≡ n + suc m → ⊥ = λ z. omega (arith, z) in
    let s : n + suc m ≡ suc n + m = omega arith in
    rw (ne_eqb n (n + suc m) e) (ap (kind_in (pairs_from (suc n) kinds)) s ∙ from_on m (suc n) kinds (omega (arith, h)))

pub from_at : (kinds : List ℕ) (n : ℕ) → n < length kinds → kind_in (pairs_from 0 kinds) n ≡ get_or kinds n 0
from_at kinds n h = let e : n ≡ 0 + n = omega arith in ap (kind_in (pairs_from 0 kinds)) e ∙ from_on n 0 kinds h

-- ---- what a reading depends on

module _ (list others drom : List ℕ) (even : length list % 2 ≡ 0) (even' : length others % 2 ≡ 0) (same : Same (kind_in list) (kind_in others)) where
  refusal_same : (room : ℕ) → refusal_of list drom room ≡ refusal_of others drom room
  refusal_same room =
      ap
      (λ (odd : ℕ). first_of ((eqb odd 1, odd_list) ∷ (ltb room (room_for (length drom)), small_buffer) ∷ (ltb (length drom) 16, too_few) ∷ header_tests (length drom) drom))
      (even ∙ sym even')

  walk_in_same : walk_in (kind_in list) drom ≡ walk_in (kind_in others) drom
  walk_in_same = walk_same (kind_in list) (kind_in others) same (body_start drom) (drop (body_start drom) drom)

  pub report_same : (room : ℕ) → report_of list drom room ≡ report_of others drom room
  unfolding report_of
  report_same room = rw (refusal_same room, walk_in_same)

  pub records_same : (room : ℕ) → records_of list drom room ≡ records_of others drom room
  unfolding records_of
  records_same room = rw (refusal_same room, walk_in_same)

  pub leaves_same : (buffer : List ℕ) → leaves_of list drom buffer ≡ leaves_of others drom buffer
  leaves_same buffer = ap (λ (rs : List ℕ). onto rs buffer) (records_same (length buffer))

-- ---- the table of a list, as bytes

module _ (list : List Adapter) (drom : List ℕ) where
  table_same : Same (kind_in (pairs_from 0 (table_of (pairs_of list)))) (kind_in (pairs_of list))
  table_same n h =
      let l : n < length (table_of (pairs_of list)) = omega (arith, h, table_long (pairs_of list)) in
      from_at (table_of (pairs_of list)) n l ∙ table_at (pairs_of list) n h

  pub table_report : (room : ℕ) → report_of (pairs_from 0 (table_of (pairs_of list))) drom room ≡ report_of (pairs_of list) drom room
  table_report = report_same _ _ drom (from_even 0 (table_of (pairs_of list))) (pairs_even list) table_same

  pub table_leaves : (buffer : List ℕ) → leaves_of (pairs_from 0 (table_of (pairs_of list))) drom buffer ≡ leaves_of (pairs_of list) drom buffer
  table_leaves = leaves_same _ _ drom (from_even 0 (table_of (pairs_of list))) (pairs_even list) table_same

-- ---- the bytes of a table, a pair at a time: for the loop of `pairs_of`

seam : (front : List ℕ) (n kind : ℕ) (rest : List ℕ) → ((front ++ (n ∷ [])) ++ (kind ∷ [])) ++ rest ≡ front ++ (n ∷ kind ∷ rest)
seam front n kind rest = append_assoc (front ++ (n ∷ [])) (kind ∷ []) rest ∙ append_assoc front (n ∷ []) (kind ∷ rest)

module _ (kinds pairs : List ℕ) (i : ℕ) where
  pub pairs_on : i < length kinds → 2 * i + 1 < length pairs → take (2 * i) pairs ++ pairs_from i (drop i kinds) ≡ pairs_from 0 kinds
      → take (2 * (i + 1)) (set (set pairs (2 * i) i) (2 * i + 1) (get_or kinds i 0)) ++ pairs_from (i + 1) (drop (i + 1) kinds) ≡ pairs_from 0 kinds
  unfolding pairs_from
  pairs_on h l e =
      let s : 2 * (i + 1) ≡ suc (suc (2 * i)) = omega arith in
      let t : 2 * i + 1 ≡ suc (2 * i) = omega arith in
      let u : i + 1 ≡ suc i = omega arith in
      let l₀ : 2 * i < length pairs = omega (arith, l) in
      let l₁ : suc (2 * i) < length (set pairs (2 * i) i) = omega (arith, l, length-set pairs (2 * i) i) in
      rw (s, t, u, take-suc-set (set pairs (2 * i) i) (suc (2 * i)) (get_or kinds i 0) l₁, take-suc-set pairs (2 * i) i l₀)
      (seam (take (2 * i) pairs) i (get_or kinds i 0) (pairs_from (suc i) (drop (suc i) kinds)) ∙ ap (λ (ks : List ℕ). take (2 * i) pairs ++ pairs_from i ks) (sym (drop-cons kinds i 0 h)) ∙ e)

  pub pairs_end : length kinds ≤ i → length pairs ≤ 2 * i → take (2 * i) pairs ++ pairs_from i (drop i kinds) ≡ pairs_from 0 kinds → pairs ≡ pairs_from 0 kinds
  unfolding pairs_from
  pairs_end h l e =
      sym (append-nil pairs) ∙ sym (ap (λ (ps : List ℕ). ps ++ []) (take_all (2 * i) pairs l)) ∙ sym (ap (λ (ks : List ℕ). take (2 * i) pairs ++ pairs_from i ks) (drop_of_length-le kinds h)) ∙ e
