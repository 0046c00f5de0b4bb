-- The walk over a body, "entry by entry 6, 7, 8, 9, 10, 11", and the records of the entries before a refused one.
-- `kinds` gives the listed kind of an adapter's number.
-- Assumes nothing.
use Rattle.std.specs.Prelude.{Bool, cond, Result, Ok, Err, List, [], ◌∷◌, ℕ, zero, suc, ◌+◌, ltb, eqb, length, get_or, take, drop}
use Rattle.entry.specs.declared.parse.DromEntry.{DromEntry}
use Rattle.entry.specs.declared.refusal.Refusal.{Refusal}
use Rattle.entry.specs.declared.refusal.Refusal.TheVariants.{ZeroLength, PastEnd}
use Rattle.entry.specs.Refusals.{refusal_number}
use Rattle.entry.specs.Decode.{number_of, decode_of, decoded_number}
use Rattle.record.specs.Record.{record_of}
use Rattle.drom.specs.Numbers.{accepted}

-- what a walk comes to: the bytes of the entries before a refused one, in order, and their records; and the refusal, 0 at 0 if there is none
pub record Walked : Type 0 where
  pub entries : List (List ℕ)
  pub records : List (List ℕ)
  pub number : ℕ
  pub offset : ℕ

-- an entry's bytes, by the kind that is listed for its number
abbrev pub entry_of : (ℕ → ℕ) → List ℕ → Result DromEntry Refusal
entry_of kinds bs = decode_of (kinds (number_of bs)) bs

-- what stands at the front of bytes whose first says its length L
unfoldable pub front_of : (ℕ → ℕ) → ℕ → List ℕ → Result DromEntry Refusal
front_of kinds L bs =
    cond (eqb L 0) (Err ZeroLength) (cond (ltb (length bs) L) (Err PastEnd) (entry_of kinds (take L bs)))

-- what stands at an offset of a DROM: as many bytes as the first there says, and what they come to
abbrev pub piece_at : List ℕ → ℕ → List ℕ
piece_at drom at = take (get_or drom at 0) (drop at drom)

abbrev pub front_at : (ℕ → ℕ) → List ℕ → ℕ → Result DromEntry Refusal
front_at kinds drom at = front_of kinds (get_or drom at 0) (drop at drom)

-- an entry stands there
abbrev pub is_entry : Result DromEntry Refusal → Bool
is_entry d = eqb (decoded_number d) accepted

-- where the bytes end, and where something is refused
abbrev pub end : Walked
end = record { entries = []; records = []; number = accepted; offset = 0 }

abbrev pub stop : ℕ → ℕ → Walked
stop n at = record { entries = []; records = []; number = n; offset = at }

-- an entry at an offset, and the walk after it; or the number of what is refused there
abbrev pub and_then : ℕ → List ℕ → Result DromEntry Refusal → Walked → Walked
and_then at bs (Ok e) rest =
    record { entries = bs ∷ rest.entries; records = record_of at bs e ∷ rest.records; number = rest.number; offset = rest.offset }
and_then at bs (Err r) rest = stop (refusal_number r) at

-- The walk from an offset on over the bytes that stand there. An entry takes a byte at least, so as many turns as there are bytes
-- are enough: proofs/WalkLaws.antt has the equations without turns (walk-end, walk_on).
unfoldable pub walk_by : ℕ → (ℕ → ℕ) → ℕ → List ℕ → Walked
walk_by zero kinds at bs = end
walk_by (suc turns) kinds at [] = end
walk_by (suc turns) kinds at (L ∷ bs) =
    and_then at (take L (L ∷ bs)) (front_of kinds L (L ∷ bs)) (walk_by turns kinds (at + L) (drop L (L ∷ bs)))

unfoldable pub walk_of : (ℕ → ℕ) → ℕ → List ℕ → Walked
walk_of kinds at bs = walk_by (length bs) kinds at bs
