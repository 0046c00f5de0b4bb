-- Demand 2: a body that can be cut, "from its first byte on, into entries of their stated lengths, each fit for its kind".
-- Assumes nothing.
use Rattle.std.specs.Prelude.{◌≡◌, List, [], ◌∷◌, ◌++◌, ℕ, ◌+◌, length}
use Rattle.entry.specs.Decode.{number_of}
use Rattle.entry.specs.Fit.{Fit}
use Rattle.record.specs.Write.{record_bytes}
use Rattle.drom.specs.Walk.{entry_of}

-- an entry of its stated length, fit for its kind
pub record Entry (kinds : ℕ → ℕ) (bs : List ℕ) : Type 0 where
  pub rest : List ℕ
  pub stated : bs ≡ length bs ∷ rest
  pub fit : Fit (kinds (number_of bs)) bs

-- a body, and the entries that it is cut into
pub data Cut (kinds : ℕ → ℕ) : List ℕ → List (List ℕ) → Type 0 where
  none : Cut kinds [] []
  next : {entry body : List ℕ} {entries : List (List ℕ)} → Entry kinds entry → Cut kinds body entries → Cut kinds (entry ++ body) (entry ∷ entries)

-- the records of entries that stand one after the other, the first at an offset
abbrev pub records_at : (ℕ → ℕ) → ℕ → List (List ℕ) → List (List ℕ)
records_at kinds at [] = []
records_at kinds at (bs ∷ entries) = record_bytes at bs (entry_of kinds bs) ∷ records_at kinds (at + length bs) entries
