-- "feeding fills a table of 64 kinds at opening": for each number below 64 the kind of the first adapter that has it, or other.
-- Assumes nothing.
use Rattle.std.specs.Prelude.{cond, List, [], ◌∷◌, ℕ, ltb, set, replicate}
use Rattle.entry.specs.Adapters.{other}

unfoldable pub table_of : List ℕ → List ℕ
table_of [] = replicate 64 other
table_of (n ∷ []) = replicate 64 other
table_of (n ∷ kind ∷ list) = cond (ltb n 64) (set (table_of list) n kind) (table_of list)
