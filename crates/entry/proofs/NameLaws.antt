-- The laws of a name: what stands before the first zero, for the search of `first_zero` and for what is refused.
-- Assumes nothing.
use mathlib.Core.Path.{◌≡◌, refl, sym, ap, ◌∙◌}
use mathlib.Core.Bool.{Bool, true, false, cond}
use mathlib.Core.List.{List, [], ◌∷◌, ◌++◌}
use Prim.Native.Nat.{ℕ, zero, suc, ◌+◌}
use Prim.Native.Nat.compare
use native.Mathlib.Omega.{arith}
use borrow.Author.Tests.{lt-ltb, ne_eqb}
use lib.Dec.{ltb, eqb}
use lib.ListN.{length, take, drop}
use Rattle.std.specs.List.{position, position_or_len}
use Rattle.std.proofs.lemmas.List.Recursion.{is_position_or_len}
use Rattle.util.specs.Utf8.{is_utf8}
use Rattle.util.proofs.Rows.{clash}
use Rattle.std.specs.Prelude.{Some, None, Err}
use Rattle.entry.specs.declared.refusal.Refusal.TheVariants.{NoZero, NotUtf8}
use Rattle.entry.specs.Names.{has_zero, before_zero}
use Rattle.entry.specs.Decode.{name_of, name_refusal, unless_refused}

-- a search finds as many as stand before the first zero, and that is less than all exactly where there is one
pub zero_place : (bs : List ℕ) → length (before_zero bs) ≡ position_or_len (λ b. eqb b 0) bs
unfolding before_zero
zero_place bs = is_position_or_len (λ l. length (before_zero l)) (λ b. eqb b 0) refl later bs
  where
    later : (b : ℕ) (bs : List ℕ) → length (before_zero (b ∷ bs)) ≡ cond (eqb b 0) 0 (1 + length (before_zero bs))
    later zero bs = refl
    later (suc b) bs = rw (ne_eqb (suc b) 0 (λ e. omega arith)) (omega arith)

ltb-suc : (a b : ℕ) → ltb (suc a) (suc b) ≡ ltb a b
ltb-suc a b = rw (compare.suc-suc (suc a) b)

pub zero_test : (bs : List ℕ) → ltb (length (before_zero bs)) (length bs) ≡ has_zero bs
unfolding has_zero before_zero
zero_test [] = refl
zero_test (zero ∷ bs) = lt-ltb 0 (suc (length bs)) (omega arith)
zero_test (suc b ∷ bs) = ltb-suc (length (before_zero bs)) (length bs) ∙ zero_test bs

pub before_take : (bs : List ℕ) → take (length (before_zero bs)) bs ≡ before_zero bs
unfolding before_zero
before_take [] = refl
before_take (zero ∷ bs) = refl
before_take (suc b ∷ bs) = ap (λ (l : List ℕ). suc b ∷ l) (before_take bs)

pub before_free : (bs : List ℕ) → has_zero (before_zero bs) ≡ false
unfolding has_zero before_zero
before_free [] = refl
before_free (zero ∷ bs) = refl
before_free (suc b ∷ bs) = before_free bs

-- what `first_zero` answers tells
zero_search : (bs : List ℕ) → position (λ b. eqb b 0) bs ≡ cond (has_zero bs) (Some (length (before_zero bs))) None
zero_search bs = rw (← zero_test bs, zero_place bs)

pub zero_found : (bs : List ℕ) (n : ℕ) → Some n ≡ position (λ b. eqb b 0) bs → (n ≡ length (before_zero bs)) × (has_zero bs ≡ true)
zero_found bs n e = go (has_zero bs) (e ∙ zero_search bs)
  where
    go : (t : Bool) → Some n ≡ cond t (Some (length (before_zero bs))) None → (n ≡ length (before_zero bs)) × (t ≡ true)
    go true e = (cc, refl)
    go false e = absurd (cc)

pub zero_missed : (bs : List ℕ) → None ≡ position (λ b. eqb b 0) bs → has_zero bs ≡ false
zero_missed bs e = go (has_zero bs) (e ∙ zero_search bs)
  where
    go : (t : Bool) → None ≡ cond t (Some (length (before_zero bs))) None → t ≡ false
    go true e = absurd (cc)
    go false e = refl

-- and so what `read_name` answers
pub name_open : (bs : List ℕ) → has_zero (drop 2 bs) ≡ false → Err NoZero ≡ unless_refused (name_refusal bs) (length (name_of bs))
unfolding name_refusal
name_open bs e = rw e

pub name_closed : (bs : List ℕ) (n : ℕ) → (n ≡ length (name_of bs)) × (has_zero (drop 2 bs) ≡ true) → (t : Bool) → t ≡ is_utf8 (take n (drop 2 bs))
    → unless_refused (cond t None (Some NotUtf8)) n ≡ unless_refused (name_refusal bs) (length (name_of bs))
unfolding name_refusal
name_closed bs n found t u = rw (u, found.1, found.0, before_take (drop 2 bs))

-- a list with a zero is what stands before it, the zero, and the rest
pub zero_splits : (bs : List ℕ) → has_zero bs ≡ true → bs ≡ before_zero bs ++ (0 ∷ drop (suc (length (before_zero bs))) bs)
unfolding has_zero before_zero
zero_splits [] e = absurd (clash e)
zero_splits (zero ∷ bs) e = refl
zero_splits (suc b ∷ bs) e = ap (λ (l : List ℕ). suc b ∷ l) (zero_splits bs e)

module _ (rest : List ℕ) where
  pub joined_zero : (text : List ℕ) → has_zero (text ++ (0 ∷ rest)) ≡ true
  unfolding has_zero
  joined_zero [] = refl
  joined_zero (zero ∷ text) = refl
  joined_zero (suc b ∷ text) = joined_zero text

  pub joined_before : (text : List ℕ) → has_zero text ≡ false → before_zero (text ++ (0 ∷ rest)) ≡ text
  unfolding has_zero before_zero
  joined_before [] e = refl
  joined_before (zero ∷ text) e = absurd (clash (sym e))
  joined_before (suc b ∷ text) e = ap (λ (l : List ℕ). suc b ∷ l) (joined_before text e)
