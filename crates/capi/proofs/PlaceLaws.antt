-- The bytes at a part's place are the part: of the header, the body, the whole DROM, and each entry (`places_are`).
-- And the place that is read in the bytes that a call leaves is the one that it wrote (`read_there`).
-- Assumes nothing.
use mathlib.Core.Path.{◌≡◌, refl, sym, ap, ap₂, ◌∙◌}
use mathlib.Core.Bool.{Bool, true, false, cond}
use mathlib.Core.List.{List, [], ◌∷◌}
use Prim.Native.Nat.{ℕ, ◌^◌, ◌<◌, ◌≤◌}
use native.Mathlib.Omega.{arith}
use native.Mathlib.Nat.{le_refl}
use lib.Dec.{eqb}
use lib.ListN.{length, take, drop, take-append-drop}
use lib.Seq.{take_all, take-append_seam}
use borrow.Author.Tests.{ne_eqb, le-ltb}
use Rattle.drom.specs.Header.{body_start, header_refusal}
use Rattle.drom.specs.Parts.{header_part, body_part, whole_part, entry_part, entry_offset}
use Rattle.drom.proofs.PartLaws.{entry_there}
use Rattle.capi.specs.Parts.{Place, place_of, bytes_at, header_place, body_place, whole_place, entry_place, place_size, place_in, place_leaves}
use Rattle.capi.specs.Bytes.{le, numbers_bytes}
use Rattle.capi.proofs.StateLaws.{number_le}

-- what a call leaves, by the start and the part that the code has
pub leaves_of_lem : {at at' : ℕ} {part part' : List ℕ} (lent : List ℕ) → at ≡ at' → part ≡ part'
    → place_leaves (place_of at (length part)) lent ≡ place_leaves (place_of at' (length part')) lent
leaves_of_lem lent e h = ap₂ (λ (k : ℕ) (p : List ℕ). place_leaves (place_of k (length p)) lent) e h

-- an empty part's place is 0 and 0, and the others' is their own
there : (drom part : List ℕ) (at : ℕ) → take (length part) (drop at drom) ≡ part → bytes_at drom (place_of at (length part)) ≡ part
there drom [] at h = refl
there drom (b ∷ part) at h = rw (ne_eqb (length (b ∷ part)) 0 (λ z. absurd (omega arith))) h

-- where a part stands if the header is accepted, there the empty one stands if not
accepted : (good : Bool) (drom part : List ℕ) (at : ℕ) → take (length part) (drop at drom) ≡ part
    → bytes_at drom (place_of at (length (cond good part []))) ≡ cond good part []
accepted true drom part at h = there drom part at h
accepted false drom part at h = refl

front : (n : ℕ) (l : List ℕ) → take (length (take n l)) l ≡ take n l
front n l = ap (take (length (take n l))) (sym (take-append-drop n l)) ∙ take-append_seam (take n l) (drop n l)

pub record PlacesAre (list drom : List ℕ) (n : ℕ) : Type 0 where
  pub header : bytes_at drom (header_place drom) ≡ header_part drom
  pub body : bytes_at drom (body_place drom) ≡ body_part drom
  pub whole : bytes_at drom (whole_place drom) ≡ whole_part drom
  pub entry : bytes_at drom (entry_place list drom n) ≡ entry_part list drom n

pub places_are : (list drom : List ℕ) (n : ℕ) → PlacesAre list drom n
places_are list drom n =
    record {
      header = accepted (eqb (header_refusal drom) 0) drom (take (body_start drom) drom) 0 (front (body_start drom) drom);
      body = accepted (eqb (header_refusal drom) 0) drom (drop (body_start drom) drom) (body_start drom) (take_all _ _ (le_refl _));
      whole = accepted (eqb (header_refusal drom) 0) drom drom 0 (take_all _ _ (le_refl _));
      entry = there drom (entry_part list drom n) (entry_offset list drom n) (entry_there list drom n);
    }

-- of numbers that eight bytes hold, as every count of a lent slice's bytes is
pub read_there : (place : Place) (lent : List ℕ) → place.offset < 256 ^ 8 → place.size < 256 ^ 8 → place_size ≤ length lent
    → place_in (place_leaves place lent) ≡ place
unfolding le numbers_bytes place_leaves
read_there place lent o s room = rw (le-ltb (length lent) place_size room, number_le 8 place.offset o, number_le 8 place.size s)
