-- Document 01, "Header": "Header, body, whole DROM and the n-th accepted entry can be asked for as parts of the caller's own bytes.
-- A refused header, an n not below the record count or, for entries, an odd list gives the empty part."
-- Assumes nothing.
use Rattle.std.specs.Prelude.{cond, List, [], ◌∷◌, ℕ, zero, suc, ◌+◌, ◌%◌, eqb, length, take, drop, get_or}
use Rattle.entry.specs.Adapters.{kind_in}
use Rattle.drom.specs.Header.{body_start, header_refusal}
use Rattle.drom.specs.Report.{walk_in}

-- a part, if the header is accepted
abbrev pub if_accepted : List ℕ → List ℕ → List ℕ
if_accepted drom part = cond (eqb (header_refusal drom) 0) part []

abbrev pub header_part : List ℕ → List ℕ
header_part drom = if_accepted drom (take (body_start drom) drom)

abbrev pub body_part : List ℕ → List ℕ
body_part drom = if_accepted drom (drop (body_start drom) drom)

abbrev pub whole_part : List ℕ → List ℕ
whole_part drom = if_accepted drom drom

-- the n-th accepted entry, counted from 0
abbrev pub entry_part : List ℕ → List ℕ → ℕ → List ℕ
entry_part list drom n = cond (eqb (length list % 2) 1) [] (if_accepted drom (get_or (walk_in (kind_in list) drom).entries n []))

-- of entries that stand one after the other from an offset on, where the n-th stands; 0 where there is none, as no entry stands there
unfoldable pub offset_in : ℕ → List (List ℕ) → ℕ → ℕ
offset_in at [] n = 0
offset_in at (e ∷ es) zero = at
offset_in at (e ∷ es) (suc n) = offset_in (at + length e) es n

-- where the n-th accepted entry stands, or 0 where entry_part is empty: proofs/PartLaws.antt has entry_there, that its bytes stand there
abbrev pub entry_offset : List ℕ → List ℕ → ℕ → ℕ
entry_offset list drom n =
    cond (eqb (length list % 2) 1) 0 (cond (eqb (header_refusal drom) 0) (offset_in (body_start drom) (walk_in (kind_in list) drom).entries n) 0)
