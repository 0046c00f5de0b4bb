-- A name: "bytes from 2 up to the first zero".
-- Assumes nothing.
use Rattle.std.specs.Prelude.{Bool, true, false, List, [], ◌∷◌, ℕ, zero, suc}

-- there is a zero
unfoldable pub has_zero : List ℕ → Bool
has_zero [] = false
has_zero (zero ∷ bs) = true
has_zero (suc b ∷ bs) = has_zero bs

-- what stands before the first zero, or all where there is none
unfoldable pub before_zero : List ℕ → List ℕ
before_zero [] = []
before_zero (zero ∷ bs) = []
before_zero (suc b ∷ bs) = suc b ∷ before_zero bs
