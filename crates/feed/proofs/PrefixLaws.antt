-- The definition of a prefix: it depends on the kinds below 64 only (`prefix_same`); its records fit in 16,368 bytes (`prefix_room`);
-- its walk's number is 0, or 6 at least (`so_number`); and where all announced bytes are there it is the walk of the whole DROM
-- (`so_whole`, `prefix_whole`).
-- Assumes nothing.
use Prim.Native.Nat.{ℕ, zero, suc, ◌+◌, ◌-◌, ◌*◌, ◌≤◌, ◌<◌}
use mathlib.Core.Path.{◌≡◌, refl, sym, ap, ap₂, subst, ◌∙◌}
use mathlib.Core.List.{List, [], ◌∷◌, flatten}
use mathlib.Core.Logic.{◌⊎◌, inl, inr}
use mathlib.Core.Bool.{Bool, true, false, cond}
use native.Mathlib.Nat.{not-suc-le-zero}
use native.Mathlib.Omega.{arith}
use lib.ListN.{length, take, drop, length-append, length-drop}
use lib.Seq.{length-take-le}
use lib.Dec.{ltb, eqb}
use borrow.Author.Tests.{lt-ltb, le-ltb, eq-eqb, ne_eqb, ltb-true, ltb-false, eqb-true, eqb-false}
use Rattle.std.specs.Prelude.{Result, Ok, Err}
use Rattle.entry.specs.declared.parse.DromEntry.{DromEntry}
use Rattle.entry.specs.declared.refusal.Refusal.{Refusal}
use Rattle.entry.specs.declared.refusal.Refusal.TheVariants.{ZeroLength, PastEnd}
use Rattle.entry.specs.Refusals.{refusal_number}
use Rattle.entry.specs.Decode.{number_of}
use Rattle.entry.proofs.FitLaws.{refused_number}
use Rattle.record.specs.Record.{record_of}
use Rattle.record.proofs.WriteLaws.{written_room}
use Rattle.drom.specs.Header.{length_in, body_start, header_number}
use Rattle.drom.specs.Walk.{Walked, entry_of, front_of, end, and_then, walk_of, stop}
use Rattle.drom.specs.Report.{walk_in}
use Rattle.drom.proofs.WalkLaws.{walk_end, walk_on, front_zero, front_past, front_whole}
use Rattle.feed.specs.Prefix.{so_far_by, prefix_of}
use Rattle.feed.proofs.BoundsLaws.{header_length}
use Rattle.feed.proofs.KindLaws.{Same, entry_same}
use Rattle.feed.proofs.PrefixEntries.{so_six, so_seven, so_part, so_entry}
use Rattle.feed.proofs.PrefixHeader.{start_least}

-- ---- case by case

-- a claim of a prefix, by what is so in each case
module _ (size : ℕ) (kinds : ℕ → ℕ) (bs : List ℕ) where
  pub prefix_short : length bs < 16 → prefix_of kinds size bs ≡ end
  unfolding prefix_of
  prefix_short h = rw (lt-ltb (length bs) 16 h)

  module _ (long : 16 ≤ length bs) where
    pub prefix_refused : (header_number size bs ≡ 0 → ⊥) → prefix_of kinds size bs ≡ stop (header_number size bs) 0
    unfolding prefix_of
    prefix_refused h = rw (le-ltb (length bs) 16 long, ne_eqb (header_number size bs) 0 h)

    pub prefix_walked : header_number size bs ≡ 0
        → prefix_of kinds size bs ≡ so_far_by (length bs) kinds (body_start bs) (size - body_start bs) (drop (body_start bs) bs)
    unfolding prefix_of
    prefix_walked h = rw (le-ltb (length bs) 16 long, eq-eqb (header_number size bs) 0 h)

  pub prefix_cases : (P : Walked → Type 0) → P end → (16 ≤ length bs → (header_number size bs ≡ 0 → ⊥) → P (stop (header_number size bs) 0))
      → (16 ≤ length bs → header_number size bs ≡ 0 → P (so_far_by (length bs) kinds (body_start bs) (size - body_start bs) (drop (body_start bs) bs)))
      → P (prefix_of kinds size bs)
  prefix_cases P short refused walked = go (ltb (length bs) 16) refl
    where
      go₁ : 16 ≤ length bs → (t : Bool) → eqb (header_number size bs) 0 ≡ t → P (prefix_of kinds size bs)
      go₁ n true e = subst P (sym (prefix_walked n (eqb-true (header_number size bs) 0 e))) (walked n (eqb-true (header_number size bs) 0 e))
      go₁ n false e = subst P (sym (prefix_refused n (eqb-false (header_number size bs) 0 e))) (refused n (eqb-false (header_number size bs) 0 e))

      go : (t : Bool) → ltb (length bs) 16 ≡ t → P (prefix_of kinds size bs)
      go true e = subst P (sym (prefix_short (ltb-true (length bs) 16 e))) short
      go false e = go₁ (ltb-false (length bs) 16 e) (eqb (header_number size bs) 0) refl

-- a claim of a walk over bytes, the first of which is l
module _ (P : Walked → Type 0) (kinds : ℕ → ℕ) (k at left l : ℕ) (t : List ℕ) where
  so_cases : P (stop 6 at) → P (stop 7 at) → P end
      → (0 < l → l ≤ length (l ∷ t) → (d : Result DromEntry Refusal) → entry_of kinds (take l (l ∷ t)) ≡ d → P (and_then at (take l (l ∷ t)) d (so_far_by k kinds (at + l) (left - l) (drop l (l ∷ t)))))
      → P (so_far_by (suc k) kinds at left (l ∷ t))
  so_cases six seven part whole = go (eqb l 0) refl
    where
      go₂ : (l ≡ 0 → ⊥) → l ≤ left → (u : Bool) → ltb (length (l ∷ t)) l ≡ u → P (so_far_by (suc k) kinds at left (l ∷ t))
      go₂ z p true e = subst P (sym (so_part kinds k at left l t z p (ltb-true (length (l ∷ t)) l e))) part
      go₂ z p false e =
          let n = ltb-false (length (l ∷ t)) l e in
          subst P (sym (so_entry kinds k at left l t z p n)) (whole (omega arith) n (entry_of kinds (take l (l ∷ t))) refl)

      go₁ : (l ≡ 0 → ⊥) → (u : Bool) → ltb left l ≡ u → P (so_far_by (suc k) kinds at left (l ∷ t))
      go₁ z true e = subst P (sym (so_seven kinds k at left l t z (ltb-true left l e))) seven
      go₁ z false e = go₂ z (ltb-false left l e) (ltb (length (l ∷ t)) l) refl

      go : (u : Bool) → eqb l 0 ≡ u → P (so_far_by (suc k) kinds at left (l ∷ t))
      go true e = subst P (sym (so_six kinds k at left l t (eqb-true l 0 e))) six
      go false e = go₁ (eqb-false l 0 e) (ltb left l) refl

-- ---- the kinds below 64

module _ (kinds others : ℕ → ℕ) (same : Same kinds others) where
  pub so_same : (k at left : ℕ) (bs : List ℕ) → so_far_by k kinds at left bs ≡ so_far_by k others at left bs
  unfolding so_far_by
  so_same zero at left bs = refl
  so_same (suc k) at left [] = refl
  so_same (suc k) at left (l ∷ t) =
      ap₂ (λ (d : Result DromEntry Refusal) (w : Walked). cond (eqb l 0) (stop 6 at) (cond (ltb left l) (stop 7 at) (cond (ltb (length (l ∷ t)) l) end (and_then at (take l (l ∷ t)) d w))))
      (entry_same kinds others same (take l (l ∷ t))) (so_same k (at + l) (left - l) (drop l (l ∷ t)))

  pub prefix_same : (size : ℕ) (bs : List ℕ) → prefix_of kinds size bs ≡ prefix_of others size bs
  unfolding prefix_of
  prefix_same size bs =
      ap (λ (w : Walked). cond (ltb (length bs) 16) end (cond (eqb (header_number size bs) 0) w (stop (header_number size bs) 0)))
      (so_same (length bs) (body_start bs) (size - body_start bs) (drop (body_start bs) bs))

module _ (kinds : ℕ → ℕ) where
  -- ---- how much it writes

  room_on : (at l : ℕ) (t : List ℕ) (w : Walked) → 0 < l → l ≤ length (l ∷ t) → length (flatten w.records) ≤ 4 * length (drop l (l ∷ t)) → (d : Result DromEntry Refusal)
      → entry_of kinds (take l (l ∷ t)) ≡ d → length (flatten (and_then at (take l (l ∷ t)) d w).records) ≤ 4 * length (l ∷ t)
  unfolding flatten
  room_on at l t w z n h (Ok e) ok =
      let piece : List ℕ = take l (l ∷ t) in
      omega (
        arith,
        length-append (record_of at piece e) (flatten w.records),
        written_room piece (kinds (number_of piece)) at e ok,
        length-take-le l (l ∷ t) n,
        length-drop l (l ∷ t),
      )
  room_on at l t w z n h (Err j) bad = omega arith

  pub so_room : (k at left : ℕ) (bs : List ℕ) → length (flatten (so_far_by k kinds at left bs).records) ≤ 4 * length bs
  unfolding so_far_by flatten
  so_room zero at left bs = omega arith
  so_room (suc k) at left [] = omega arith
  so_room (suc k) at left (l ∷ t) =
      so_cases (λ (w : Walked). length (flatten w.records) ≤ 4 * length (l ∷ t)) kinds k at left l t (omega arith) (omega arith) (omega arith)
      (λ z n d e. room_on at l t (so_far_by k kinds (at + l) (left - l) (drop l (l ∷ t))) z n (so_room k (at + l) (left - l) (drop l (l ∷ t))) d e)

  pub prefix_room : (size : ℕ) (bs : List ℕ) → length bs ≤ size → length (flatten (prefix_of kinds size bs).records) ≤ 16368
  unfolding flatten
  prefix_room size bs h =
      prefix_cases size kinds bs (λ (w : Walked). length (flatten w.records) ≤ 16368) (omega arith) (λ n z. omega arith)
      (λ n z.
      let least : 16 ≤ body_start bs = start_least bs in
      let m : length_in bs + 13 ≡ size = header_length size bs z in
      let r = so_room (length bs) (body_start bs) (size - body_start bs) (drop (body_start bs) bs) in
      let d = length-drop (body_start bs) bs in
      omega (arith, r, d, m, least, h))

  -- ---- its number

  number_on : (at : ℕ) (bs : List ℕ) (w : Walked) → (w.number ≡ 0) ⊎ (6 ≤ w.number) → (d : Result DromEntry Refusal) → entry_of kinds bs ≡ d
      → ((and_then at bs d w).number ≡ 0) ⊎ (6 ≤ (and_then at bs d w).number)
  number_on at bs w h (Ok e) ok = h
  number_on at bs w h (Err n) bad = let m : 8 ≤ refusal_number n = (refused_number (kinds (number_of bs)) bs n bad).0 in inr (omega arith)

  pub so_number : (k at left : ℕ) (bs : List ℕ) → ((so_far_by k kinds at left bs).number ≡ 0) ⊎ (6 ≤ (so_far_by k kinds at left bs).number)
  unfolding so_far_by
  so_number zero at left bs = inl refl
  so_number (suc k) at left [] = inl refl
  so_number (suc k) at left (l ∷ t) =
      so_cases (λ (w : Walked). (w.number ≡ 0) ⊎ (6 ≤ w.number)) kinds k at left l t (inr (omega arith)) (inr (omega arith)) (inl refl)
      (λ z n d e. number_on at (take l (l ∷ t)) (so_far_by k kinds (at + l) (left - l) (drop l (l ∷ t))) (so_number k (at + l) (left - l) (drop l (l ∷ t))) d e)

  -- ---- all bytes are there

  whole_on : (k at l : ℕ) (t : List ℕ)
      → so_far_by k kinds (at + l) (length (l ∷ t) - l) (drop l (l ∷ t)) ≡ walk_of kinds (at + l) (drop l (l ∷ t)) ⊎ (l ≡ 0)
      → so_far_by (suc k) kinds at (length (l ∷ t)) (l ∷ t) ≡ walk_of kinds at (l ∷ t)
  whole_on k at l t h = go h (eqb l 0) refl
    where
      xs : List ℕ
      xs = l ∷ t

      front : (d : Result DromEntry Refusal) → front_of kinds l xs ≡ d → and_then at (take l xs) d (walk_of kinds (at + l) (drop l xs)) ≡ walk_of kinds at xs
      front d e = ap (λ (x : Result DromEntry Refusal). and_then at (take l xs) x (walk_of kinds (at + l) (drop l xs))) (sym e) ∙ sym (walk_on kinds at l t)

      go₁ : (l ≡ 0 → ⊥) → so_far_by k kinds (at + l) (length (l ∷ t) - l) (drop l (l ∷ t)) ≡ walk_of kinds (at + l) (drop l (l ∷ t)) ⊎ (l ≡ 0)
          → (u : Bool) → ltb (length xs) l ≡ u → so_far_by (suc k) kinds at (length xs) xs ≡ walk_of kinds at xs
      go₁ z h true e = so_seven kinds k at (length xs) l t z (ltb-true (length xs) l e) ∙ front (Err PastEnd) (front_past kinds l xs z (ltb-true (length xs) l e))
      go₁ z (inr y) false e = absurd (z y)
      go₁ z (inl h) false e =
          let n = ltb-false (length xs) l e in
          so_entry kinds k at (length xs) l t z n n
          ∙ ap (and_then at (take l xs) (entry_of kinds (take l xs))) h
          ∙ front (entry_of kinds (take l xs)) (front_whole kinds l xs z n)

      go : so_far_by k kinds (at + l) (length (l ∷ t) - l) (drop l (l ∷ t)) ≡ walk_of kinds (at + l) (drop l (l ∷ t)) ⊎ (l ≡ 0)
          → (u : Bool) → eqb l 0 ≡ u → so_far_by (suc k) kinds at (length xs) xs ≡ walk_of kinds at xs
      go h true e = so_six kinds k at (length xs) l t (eqb-true l 0 e) ∙ front (Err ZeroLength) (front_zero kinds l xs (eqb-true l 0 e))
      go h false e = go₁ (eqb-false l 0 e) h (ltb (length xs) l) refl

  none : (at : ℕ) → end ≡ walk_of kinds at []
  none at = sym (walk_end kinds at)

  pub so_whole : (k at : ℕ) (bs : List ℕ) → length bs ≤ k → so_far_by k kinds at (length bs) bs ≡ walk_of kinds at bs
  unfolding so_far_by
  so_whole zero at [] h = none at
  so_whole zero at (l ∷ t) h = absurd (not-suc-le-zero h)
  so_whole (suc k) at [] h = none at
  so_whole (suc k) at (zero ∷ t) h = whole_on k at zero t (inr refl)
  so_whole (suc k) at (suc l ∷ t) h =
      let xs : List ℕ = suc l ∷ t in
      let d : length (drop (suc l) xs) ≡ length xs - suc l = length-drop (suc l) xs in
      whole_on k at (suc l) t
      (inl (ap (λ (n : ℕ). so_far_by k kinds (at + suc l) n (drop (suc l) xs)) (sym d) ∙ so_whole k (at + suc l) (drop (suc l) xs) (omega arith)))

  pub prefix_whole : (drom : List ℕ) → 16 ≤ length drom → header_number (length drom) drom ≡ 0 → prefix_of kinds (length drom) drom ≡ walk_in kinds drom
  prefix_whole drom n z =
      let d : length (drop (body_start drom) drom) ≡ length drom - body_start drom = length-drop (body_start drom) drom in
      prefix_walked (length drom) kinds drom n z
      ∙ ap (λ (k : ℕ). so_far_by (length drom) kinds (body_start drom) k (drop (body_start drom) drom)) (sym d)
      ∙ so_whole (length drom) (body_start drom) (drop (body_start drom) drom) (omega arith)
