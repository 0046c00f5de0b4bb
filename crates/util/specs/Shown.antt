-- What a step over UTF-16 units tells: the byte that it shows, if any, and where to go on.
-- Only private functions' contracts cite these; no public promise rests on them.
-- Assumes nothing.
use Rattle.std.specs.Prelude.{◌≡◌, ℕ, ◌+◌, ◌≤◌, List, [], ◌∷◌, ◌++◌, Option, Some, None, length, drop}
use Rattle.util.specs.Utf16.{units, text_of}

abbrev pub shown : Option ℕ → List ℕ
shown None = []
shown (Some b) = b ∷ []

-- the units from i on begin with u
pub record StartsWith (bs : List ℕ) (i u : ℕ) : Type 0 where
  pub inside : i + 2 ≤ length bs
  pub first : units (drop i bs) ≡ u ∷ units (drop (i + 2) bs)

-- from i, the byte b is shown, if any, and then the text from next on
pub record Shows (bs : List ℕ) (i : ℕ) (b : Option ℕ) (next : ℕ) : Type 0 where
  pub text : text_of (units (drop i bs)) ≡ shown b ++ text_of (units (drop next bs))
  pub on : i + 2 ≤ next
  pub inside : next ≤ length bs
