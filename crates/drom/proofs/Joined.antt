-- Lists that are joined.
-- Assumes nothing.
use mathlib.Core.Path.{◌≡◌, refl, sym, ap, ◌∙◌}
use mathlib.Core.List.{List, [], ◌∷◌, ◌++◌, append_assoc, append-nil, flatten}
use Prim.Native.Nat.{ℕ}

pub flatten_append : (xs ys : List (List ℕ)) → flatten (xs ++ ys) ≡ flatten xs ++ flatten ys
unfolding flatten
flatten_append [] ys = refl
flatten_append (x ∷ xs) ys = ap (λ (t : List ℕ). x ++ t) (flatten_append xs ys) ∙ sym (append_assoc x (flatten xs) (flatten ys))

-- one more at the end
pub flatten_snoc : (xs : List (List ℕ)) (x : List ℕ) → flatten (xs ++ (x ∷ [])) ≡ flatten xs ++ x
unfolding flatten
flatten_snoc xs x = flatten_append xs (x ∷ []) ∙ ap (λ (t : List ℕ). flatten xs ++ t) (append-nil x)
