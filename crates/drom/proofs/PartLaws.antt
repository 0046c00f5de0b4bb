-- The n-th accepted entry and its place, along the walk: the bytes at an entry's place are the entry (`entry_there`); there are as many
-- entries as records (`as_many`), so that "an n not below the record count .. gives the empty part" (`entry_beyond`).
-- Assumes nothing.
use mathlib.Core.Path.{◌≡◌, refl, sym, ap, ◌∙◌}
use mathlib.Core.Bool.{Bool, true, false, cond}
use mathlib.Core.List.{List, [], ◌∷◌}
use mathlib.Core.Logic.{◌⊎◌, inl, inr, ⊎_elim}
use Prim.Native.Nat.{ℕ, zero, suc, ◌+◌, ◌-◌, ◌%◌, ◌<◌, ◌≤◌}
use native.Mathlib.Omega.{arith}
use borrow.Author.Tests.{eqb-true}
use lib.Dec.{eqb}
use lib.ListN.{length, take, drop, get_or, length-drop, get_or-eq_default}
use lib.Seq.{length-take-le}
use Rattle.std.specs.Prelude.{Result, Ok, Err}
use Rattle.entry.specs.declared.parse.DromEntry.{DromEntry}
use Rattle.entry.specs.declared.refusal.Refusal.{Refusal}
use Rattle.entry.specs.Adapters.{kind_in}
use Rattle.drom.specs.Header.{body_start, header_refusal}
use Rattle.drom.specs.Walk.{Walked, front_of, piece_at, and_then, walk_by, walk_of}
use Rattle.drom.specs.Report.{walk_in}
use Rattle.drom.specs.Parts.{entry_part, offset_in, entry_offset}
use Rattle.drom.proofs.HeaderLaws.{sizes}
use Rattle.drom.proofs.WalkLaws.{Passes, stepped}

-- as many bytes as the first says stand at an offset
piece_length : (drom : List ℕ) (at : ℕ) → at ≤ length drom → at + get_or drom at 0 ≤ length drom → length (piece_at drom at) ≡ get_or drom at 0
piece_length drom at h k = length-take-le (get_or drom at 0) (drop at drom) (omega (arith, length-drop at drom))

-- ---- places of entries, by the steps of the walk

pub offset_none : (at n : ℕ) {es : List (List ℕ)} → es ≡ [] → offset_in at es n ≡ 0
unfolding offset_in
offset_none at n e = rw e

module _ {kinds : ℕ → ℕ} {drom : List ℕ} {at r : ℕ} (p : Passes kinds drom at r) where
  pub offset_here : offset_in at (walk_of kinds at (drop at drom)).entries 0 ≡ at
  unfolding offset_in
  offset_here = rw p.entries

  pub offset_next : (n : ℕ) → offset_in at (walk_of kinds at (drop at drom)).entries (suc n) ≡ offset_in r (walk_of kinds r (drop r drom)).entries n
  unfolding offset_in
  offset_next n =
      let ends : at + length (piece_at drom at) ≡ r = omega (arith, piece_length drom at (omega (arith, p.on, p.inside)) (omega (arith, p.inside, p.ends)), p.ends) in
      rw p.entries (ap (λ (k : ℕ). offset_in k (walk_of kinds r (drop r drom)).entries n) ends)

  -- the same for a count that the code takes one off
  pub offset_left : (n : ℕ) → (n ≡ 0 → ⊥) → offset_in at (walk_of kinds at (drop at drom)).entries n ≡ offset_in r (walk_of kinds r (drop r drom)).entries (n - 1)
  offset_left zero h = absurd (h refl)
  offset_left (suc n) h = let e : suc n - 1 ≡ n = omega arith in offset_next n ∙ ap (offset_in r (walk_of kinds r (drop r drom)).entries) (sym e)

-- ---- a part, and where it stands

-- as many bytes as the first says, and not at the front of the DROM
pub record Stands (drom part : List ℕ) (at : ℕ) : Type 0 where
  pub on : 0 < at
  pub before : at < length drom
  pub inside : at + get_or drom at 0 ≤ length drom
  pub is : part ≡ piece_at drom at

abbrev Placed : List ℕ → List ℕ → ℕ → Type 0
Placed drom part at = ((at ≡ 0) × (part ≡ [])) ⊎ Stands drom part at

module _ (kinds : ℕ → ℕ) (drom : List ℕ) where
  -- the n-th entry of a walk
  nth_placed : (n at : ℕ) → 0 < at → Placed drom (get_or (walk_of kinds at (drop at drom)).entries n []) (offset_in at (walk_of kinds at (drop at drom)).entries n)
  nth_placed zero at h =
      ⊎_elim
      (λ e. inl (offset_none at 0 e, rw e))
      (λ (p : Passes kinds drom at (at + get_or drom at 0)). inr (rw (offset_here p, p.entries) (record { on = h; before = omega (arith, p.on, p.inside); inside = p.inside; is = refl })))
      (stepped kinds drom at)
  nth_placed (suc n) at h =
      ⊎_elim
      (λ e. inl (offset_none at (suc n) e, rw e))
      (λ (p : Passes kinds drom at (at + get_or drom at 0)). rw (offset_next p n, p.entries) (nth_placed n (at + get_or drom at 0) (omega (arith, p.on))))
      (stepped kinds drom at)

-- ---- as many entries as records

module _ (kinds : ℕ → ℕ) where
  many_then : (at : ℕ) (bs : List ℕ) (d : Result DromEntry Refusal) (w : Walked) → length w.entries ≡ length w.records
      → length (and_then at bs d w).entries ≡ length (and_then at bs d w).records
  many_then at bs (Ok e) w h = ap suc h
  many_then at bs (Err r) w h = refl

  many_by : (turns at : ℕ) (bs : List ℕ) → length (walk_by turns kinds at bs).entries ≡ length (walk_by turns kinds at bs).records
  unfolding walk_by
  many_by zero at bs = refl
  many_by (suc turns) at [] = refl
  many_by (suc turns) at (L ∷ bs) =
      many_then at (take L (L ∷ bs)) (front_of kinds L (L ∷ bs)) (walk_by turns kinds (at + L) (drop L (L ∷ bs))) (many_by turns (at + L) (drop L (L ∷ bs)))

  pub as_many : (at : ℕ) (bs : List ℕ) → length (walk_of kinds at bs).entries ≡ length (walk_of kinds at bs).records
  unfolding walk_of
  as_many at bs = many_by (length bs) at bs

-- ---- the n-th accepted entry

module _ (list drom : List ℕ) (n : ℕ) where
  entry_placed : Placed drom (entry_part list drom n) (entry_offset list drom n)
  entry_placed = go (eqb (length list % 2) 1) (eqb (header_refusal drom) 0) refl
    where
      go : (odd good : Bool) → eqb (header_refusal drom) 0 ≡ good
          → Placed drom (cond odd [] (cond good (get_or (walk_in (kind_in list) drom).entries n []) []))
          (cond odd 0 (cond good (offset_in (body_start drom) (walk_in (kind_in list) drom).entries n) 0))
      go true good e = inl (refl, refl)
      go false false e = inl (refl, refl)
      go false true e = nth_placed (kind_in list) drom n (body_start drom) (omega (arith, (sizes drom (eqb-true (header_refusal drom) 0 e)).from))

  -- of a place, as the code has it: there is no entry, or its bytes stand there
  module _ (at : ℕ) (e : at ≡ entry_offset list drom n) where
    pub entry_none : at ≡ 0 → entry_part list drom n ≡ []
    entry_none z = ⊎_elim (λ p. p.1) (λ s. absurd (omega (arith, s.on))) (rw (← e) at entry_placed)

    pub entry_stands : (at ≡ 0 → ⊥) → Stands drom (entry_part list drom n) at
    entry_stands some = ⊎_elim (λ p. absurd (some p.0)) (λ s. s) (rw (← e) at entry_placed)

  -- the bytes at an entry's place are the entry
  pub entry_there : take (length (entry_part list drom n)) (drop (entry_offset list drom n) drom) ≡ entry_part list drom n
  entry_there = ⊎_elim (λ p. rw p.1) (λ s. rw s.is (ap (λ (k : ℕ). take k (drop (entry_offset list drom n) drom)) (piece_length drom (entry_offset list drom n) (omega (arith, s.before)) s.inside))) entry_placed

  -- an n not below the record count has none
  pub entry_beyond : length (walk_in (kind_in list) drom).records ≤ n → entry_part list drom n ≡ []
  entry_beyond h = go (eqb (length list % 2) 1) (eqb (header_refusal drom) 0)
    where
      go : (odd good : Bool) → cond odd [] (cond good (get_or (walk_in (kind_in list) drom).entries n []) []) ≡ []
      go true good = refl
      go false false = refl
      go false true =
          get_or-eq_default (walk_in (kind_in list) drom).entries [] {n = n}
          (omega (arith, as_many (kind_in list) (body_start drom) (drop (body_start drom) drom)))
