-- Adapters as bytes, number then kind: of a slice of records, and of a table of kinds.
-- Assumes nothing.
use Rattle.std.specs.Prelude.{cond, List, [], ◌∷◌, ℕ, suc, ltb, set}
use Rattle.listed.specs.declared.Adapter.{Adapter}

-- "a slice of structs, two bytes each, number and kind": its bytes
unfoldable pub pairs_of : List Adapter → List ℕ
pairs_of [] = []
pairs_of (a ∷ list) = a.number ∷ a.kind ∷ pairs_of list

-- the kinds of a number and of those after it: each number with its kind behind it
unfoldable pub pairs_from : ℕ → List ℕ → List ℕ
pairs_from n [] = []
pairs_from n (kind ∷ kinds) = n ∷ kind ∷ pairs_from (suc n) kinds

-- a table of 64 kinds with one more adapter: a number of 64 and more counts for nothing
abbrev pub with_kind : List ℕ → ℕ → ℕ → List ℕ
with_kind kinds n kind = cond (ltb n 64) (set kinds n kind) kinds
