-- Demand 3: "After each piece, the records are those of the entries complete so far, up to the first refused, none under a refused ..
-- header". What the first bytes of a DROM say of it, where its size is announced.
-- Assumes nothing.
use Rattle.std.specs.Prelude.{cond, List, [], ◌∷◌, ℕ, zero, suc, ◌+◌, ◌-◌, ltb, eqb, length, take, drop}
use Rattle.drom.specs.Numbers.{zero_length, past_end}
use Rattle.drom.specs.Header.{body_start, header_number}
use Rattle.drom.specs.Walk.{Walked, entry_of, end, stop, and_then}

-- The walk from an offset on over the bytes that are there, of `left` that are announced from there: 6, then 7 by the announced bytes,
-- and an entry that is not whole yet ends it.
unfoldable pub so_far_by : ℕ → (ℕ → ℕ) → ℕ → ℕ → List ℕ → Walked
so_far_by zero kinds at left bs = end
so_far_by (suc turns) kinds at left [] = end
so_far_by (suc turns) kinds at left (L ∷ bs) =
    cond (eqb L 0) (stop zero_length at)
    (cond (ltb left L) (stop past_end at)
    (cond (ltb (length (L ∷ bs)) L) end
    (and_then at (take L (L ∷ bs)) (entry_of kinds (take L (L ∷ bs))) (so_far_by turns kinds (at + L) (left - L) (drop L (L ∷ bs))))))

-- what the first bytes of a DROM of the announced size come to: nothing before 16 are in, nothing but its number under a refused header
unfoldable pub prefix_of : (ℕ → ℕ) → ℕ → List ℕ → Walked
prefix_of kinds size bs =
    cond (ltb (length bs) 16) end
    (cond (eqb (header_number size bs) 0) (so_far_by (length bs) kinds (body_start bs) (size - body_start bs) (drop (body_start bs) bs))
    (stop (header_number size bs) 0))
