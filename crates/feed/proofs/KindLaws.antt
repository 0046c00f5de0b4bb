-- The table of kinds: it has 64 kinds (`table_long`), and at each number below 64 the kind that the list gives for it (`table_at`).
-- An entry's number is below 64 (`number_small`), so what an entry and a walk come to depends on the kinds below 64 only
-- (`entry_same`, `walk_same`).
-- Assumes nothing.
use mathlib.Core.Path.{◌≡◌, refl, sym, ap, ap₂, ◌∙◌}
use mathlib.Core.Bool.{Bool, true, false, cond}
use mathlib.Core.List.{List, [], ◌∷◌}
use Prim.Native.Nat.{ℕ, zero, suc, ◌+◌, ◌<◌}
use native.Mathlib.Omega.{arith}
use borrow.Author.Tests.{eqb-true, eqb-false, lt-ltb}
use lib.Dec.{ltb, eqb}
use lib.ListN.{length, get_or, set, take, drop, length-set, length-replicate, get_or-replicate}
use lib.Seq.{get_or-set_same, get_or-set_other}
use Rattle.std.specs.Prelude.{Result, Err}
use Rattle.entry.specs.declared.parse.DromEntry.{DromEntry}
use Rattle.entry.specs.declared.refusal.Refusal.{Refusal}
use Rattle.entry.specs.declared.refusal.Refusal.TheVariants.{ZeroLength, PastEnd}
use Rattle.entry.specs.Adapters.{other, kind_in}
use Rattle.entry.specs.Decode.{number_of, decode_of}
use Rattle.drom.specs.Walk.{entry_of, front_of, and_then, walk_by, walk_of}
use Rattle.feed.specs.Kinds.{table_of}

-- ---- the table

set_long : (t : Bool) (table : List ℕ) (n kind : ℕ) → length table ≡ 64 → length (cond t (set table n kind) table) ≡ 64
set_long true table n kind h = length-set table n kind ∙ h
set_long false table n kind h = h

pub table_long : (list : List ℕ) → length (table_of list) ≡ 64
unfolding table_of
table_long [] = length-replicate 64 other
table_long (n ∷ []) = length-replicate 64 other
table_long (n ∷ kind ∷ list) = set_long (ltb n 64) (table_of list) n kind (table_long list)

-- a pair in front
pair_at : (table : List ℕ) (m kind n rest : ℕ) → length table ≡ 64 → n < 64 → get_or table n 0 ≡ rest
    → get_or (cond (ltb m 64) (set table m kind) table) n 0 ≡ cond (eqb m n) kind rest
pair_at table m kind n rest l h e = go (eqb m n) refl
  where
    none : (t : Bool) → (m ≡ n → ⊥) → get_or (cond t (set table m kind) table) n 0 ≡ rest
    none true z = get_or-set_other table m n kind 0 (λ q. z (sym q)) ∙ e
    none false z = e

    go : (t : Bool) → eqb m n ≡ t → get_or (cond (ltb m 64) (set table m kind) table) n 0 ≡ cond t kind rest
    go true f =
        let same : m ≡ n = eqb-true m n f in
        rw (lt-ltb m 64 (omega arith), same) (get_or-set_same table n kind 0 (omega arith))
    go false f = none (ltb m 64) (eqb-false m n f)

pub table_at : (list : List ℕ) (n : ℕ) → n < 64 → get_or (table_of list) n 0 ≡ kind_in list n
unfolding table_of kind_in
table_at [] n h = get_or-replicate 64 n other 0 h
table_at (m ∷ []) n h = get_or-replicate 64 n other 0 h
table_at (m ∷ kind ∷ list) n h = pair_at (table_of list) m kind n (kind_in list n) (table_long list) h (table_at list n h)

-- ---- which kinds count

pub number_small : (bs : List ℕ) → number_of bs < 64
number_small bs = omega arith

-- kinds that are the same below 64
abbrev pub Same : (ℕ → ℕ) → (ℕ → ℕ) → Type 0
Same kinds others = (n : ℕ) → n < 64 → kinds n ≡ others n

module _ (kinds others : ℕ → ℕ) (same : Same kinds others) where
  pub entry_same : (bs : List ℕ) → entry_of kinds bs ≡ entry_of others bs
  entry_same bs = ap (λ (kind : ℕ). decode_of kind bs) (same (number_of bs) (number_small bs))

  front_same : (L : ℕ) (bs : List ℕ) → front_of kinds L bs ≡ front_of others L bs
  unfolding front_of
  front_same L bs = ap (λ (d : Result DromEntry Refusal). cond (eqb L 0) (Err ZeroLength) (cond (ltb (length bs) L) (Err PastEnd) d)) (entry_same (take L bs))

  by_same : (turns at : ℕ) (bs : List ℕ) → walk_by turns kinds at bs ≡ walk_by turns others at bs
  unfolding walk_by
  by_same zero at bs = refl
  by_same (suc turns) at [] = refl
  by_same (suc turns) at (L ∷ bs) = ap₂ (and_then at (take L (L ∷ bs))) (front_same L (L ∷ bs)) (by_same turns (at + L) (drop L (L ∷ bs)))

  pub walk_same : (at : ℕ) (bs : List ℕ) → walk_of kinds at bs ≡ walk_of others at bs
  unfolding walk_of
  walk_same at bs = by_same (length bs) at bs
