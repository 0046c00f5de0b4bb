-- The kind of a number, from a place of the list on: for the loop of `kind_in`.
-- Assumes nothing.
use mathlib.Core.Path.{◌≡◌, refl, sym, ap, ◌∙◌}
use mathlib.Core.List.{List, [], ◌∷◌}
use Prim.Native.Nat.{ℕ, suc, ◌+◌, ◌<◌, ◌≤◌}
use native.Mathlib.Nat.{not-suc-le-zero, le_of_suc-le-suc}
use native.Mathlib.Numerals.{towards_suc}
use native.Mathlib.Omega.{arith}
use borrow.Author.Tests.{eq-eqb, ne_eqb}
use lib.ListN.{length, get_or, drop, length-drop}
use lib.Seq.{drop-cons}
use Rattle.entry.specs.Adapters.{other, kind_in}

module _ (list : List ℕ) (number i : ℕ) (h : i + 1 < length list) where
  pair : drop i list ≡ get_or list i 0 ∷ get_or list (i + 1) 0 ∷ drop (i + 2) list
  pair = simp towards_suc (rw (drop-cons list i 0 (omega arith), drop-cons list (suc i) 0 (omega arith)))

  pub found : get_or list i 0 ≡ number → kind_in (drop i list) number ≡ get_or list (i + 1) 0
  unfolding kind_in
  found e = ap (λ (l : List ℕ). kind_in l number) pair ∙ rw (eq-eqb (get_or list i 0) number e)

  pub passed : (get_or list i 0 ≡ number → ⊥) → kind_in (drop (i + 2) list) number ≡ kind_in (drop i list) number
  unfolding kind_in
  passed e = sym (ap (λ (l : List ℕ). kind_in l number) pair ∙ rw (ne_eqb (get_or list i 0) number e))

short : (list : List ℕ) (number : ℕ) → length list ≤ 1 → kind_in list number ≡ other
unfolding kind_in
short [] number h = refl
short (n ∷ []) number h = refl
short (n ∷ kind ∷ list) number h = absurd (not-suc-le-zero (le_of_suc-le-suc h))

pub none : (list : List ℕ) (number i : ℕ) → length list ≤ i + 1 → kind_in (drop i list) number ≡ other
none list number i h = short (drop i list) number (omega (arith, length-drop i list))
