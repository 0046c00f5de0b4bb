-- The equations of a walk, without its turns: over nothing, and over bytes with an entry or a refusal at their front. What is refused there has
-- a number from 6 to 11 (`front_number`).
-- Assumes nothing.
use mathlib.Core.Path.{◌≡◌, refl, sym, ap, subst, ◌∙◌}
use mathlib.Core.Bool.{Bool, true, false, cond}
use mathlib.Core.List.{List, [], ◌∷◌}
use mathlib.Core.Logic.{◌⊎◌, inl, inr}
use Prim.Native.Nat.{ℕ, zero, suc, ◌+◌, ◌<◌, ◌≤◌}
use native.Mathlib.Nat.{le_refl, not-suc-le-zero}
use native.Mathlib.Omega.{arith}
use borrow.Author.Tests.{eqb-false, ltb-true, ltb-false, eq-eqb, ne_eqb, lt-ltb, le-ltb}
use lib.Dec.{ltb, eqb}
use lib.ListN.{length, take, drop, get_or, length-drop, drop_of_length-le}
use lib.Seq.{drop-cons, drop-drop}
use Rattle.std.specs.Prelude.{Result, Ok, Err, Some, None}
use Rattle.entry.specs.declared.parse.DromEntry.{DromEntry}
use Rattle.entry.specs.declared.refusal.Refusal.{Refusal}
use Rattle.entry.specs.declared.refusal.Refusal.TheVariants.{ZeroLength, PastEnd}
use Rattle.entry.specs.Refusals.{refusal_number}
use Rattle.entry.specs.Decode.{number_of}
use Rattle.entry.proofs.FitLaws.{refused_number}
use Rattle.drom.specs.Walk.{Walked, entry_of, front_of, piece_at, front_at, is_entry, end, and_then, walk_by, walk_of}
use Rattle.drom.specs.Walking.{end_at}

-- what an entry at the front says of its length
pub front_inside : (kinds : ℕ → ℕ) (L : ℕ) (bs : List ℕ) (e : DromEntry) → front_of kinds L bs ≡ Ok e → (0 < L) × (L ≤ length bs) × (entry_of kinds (take L bs) ≡ Ok e)
unfolding front_of
front_inside kinds L bs e h = go (eqb L 0) (ltb (length bs) L) refl refl h
  where
    go : (p q : Bool) → eqb L 0 ≡ p → ltb (length bs) L ≡ q → cond p (Err ZeroLength) (cond q (Err PastEnd) (entry_of kinds (take L bs))) ≡ Ok e
        → (0 < L) × (L ≤ length bs) × (entry_of kinds (take L bs) ≡ Ok e)
    go true q ep eq h = absurd (cc)
    go false true ep eq h = absurd (cc)
    go false false ep eq h = (omega (arith, eqb-false L 0 ep), ltb-false (length bs) L eq, h)

-- and the numbers of what is refused there: 6 to 11
pub front_number : (kinds : ℕ → ℕ) (L : ℕ) (bs : List ℕ) (r : Refusal) → front_of kinds L bs ≡ Err r → (6 ≤ refusal_number r) × (refusal_number r ≤ 11)
unfolding front_of
front_number kinds L bs r = go (eqb L 0) (ltb (length bs) L)
  where
    go : (p q : Bool) → cond p (Err ZeroLength) (cond q (Err PastEnd) (entry_of kinds (take L bs))) ≡ Err r → (6 ≤ refusal_number r) × (refusal_number r ≤ 11)
    go true q h = let same : ZeroLength ≡ r = cc in rw (← same) (omega arith)
    go false true h = let same : PastEnd ≡ r = cc in rw (← same) (omega arith)
    go false false h = let y = refused_number (kinds (number_of (take L bs))) (take L bs) r h in omega arith

-- so what is refused there is no entry
pub no_entry : (kinds : ℕ → ℕ) (L : ℕ) (bs : List ℕ) (r : Refusal) → front_of kinds L bs ≡ Err r → is_entry (front_of kinds L bs) ≡ false
no_entry kinds L bs r h = ap is_entry h ∙ ne_eqb (refusal_number r) 0 (λ z. omega (arith, front_number kinds L bs r h))

-- as many turns as there are bytes, or more, make no difference
module _ (kinds : ℕ → ℕ) where
  enough : (t u at : ℕ) (bs : List ℕ) → length bs ≤ t → length bs ≤ u → walk_by t kinds at bs ≡ walk_by u kinds at bs
  unfolding walk_by
  enough zero zero at bs h k = refl
  enough zero (suc u) at [] h k = refl
  enough zero (suc u) at (L ∷ bs) h k = absurd (not-suc-le-zero h)
  enough (suc t) zero at [] h k = refl
  enough (suc t) zero at (L ∷ bs) h k = absurd (not-suc-le-zero k)
  enough (suc t) (suc u) at [] h k = refl
  enough (suc t) (suc u) at (L ∷ bs) h k = go (front_of kinds L (L ∷ bs)) refl (λ p. enough t u (at + L) (drop L (L ∷ bs)) (left t h p) (left u k p))
    where
      left : (n : ℕ) → suc (length bs) ≤ suc n → 0 < L → length (drop L (L ∷ bs)) ≤ n
      left n q p = omega (arith, length-drop L (L ∷ bs))

      go : (d : Result DromEntry Refusal) → front_of kinds L (L ∷ bs) ≡ d → (0 < L → walk_by t kinds (at + L) (drop L (L ∷ bs)) ≡ walk_by u kinds (at + L) (drop L (L ∷ bs)))
          → and_then at (take L (L ∷ bs)) d (walk_by t kinds (at + L) (drop L (L ∷ bs))) ≡ and_then at (take L (L ∷ bs)) d (walk_by u kinds (at + L) (drop L (L ∷ bs)))
      go (Ok e) f same = ap (and_then at (take L (L ∷ bs)) (Ok e)) (same (front_inside kinds L (L ∷ bs) e f).0)
      go (Err r) f same = refl

  -- a walk over nothing
  pub walk_end : (at : ℕ) → walk_of kinds at [] ≡ end
  unfolding walk_of walk_by
  walk_end at = refl

  -- a walk over bytes of which the first is L
  pub walk_on : (at L : ℕ) (bs : List ℕ)
      → walk_of kinds at (L ∷ bs) ≡ and_then at (take L (L ∷ bs)) (front_of kinds L (L ∷ bs)) (walk_of kinds (at + L) (drop L (L ∷ bs)))
  unfolding walk_of walk_by
  walk_on at L bs = go (front_of kinds L (L ∷ bs)) refl
    where
      go : (d : Result DromEntry Refusal) → front_of kinds L (L ∷ bs) ≡ d
          → and_then at (take L (L ∷ bs)) d (walk_by (length bs) kinds (at + L) (drop L (L ∷ bs)))
          ≡ and_then at (take L (L ∷ bs)) d (walk_by (length (drop L (L ∷ bs))) kinds (at + L) (drop L (L ∷ bs)))
      go (Ok e) f =
          let p : 0 < L = (front_inside kinds L (L ∷ bs) e f).0 in
          ap (and_then at (take L (L ∷ bs)) (Ok e))
          (enough (length bs) (length (drop L (L ∷ bs))) (at + L) (drop L (L ∷ bs)) (omega (arith, length-drop L (L ∷ bs))) (le_refl _))
      go (Err r) f = refl

  -- ---- at an index of the whole DROM

  -- a walk at an index, where a byte stands
  pub walk_at : (drom : List ℕ) (at : ℕ) → at < length drom
      → walk_of kinds at (drop at drom)
      ≡ and_then at (take (get_or drom at 0) (drop at drom)) (front_of kinds (get_or drom at 0) (drop at drom)) (walk_of kinds (at + get_or drom at 0) (drop (at + get_or drom at 0) drom))
  walk_at drom at h =
      let L : ℕ = get_or drom at 0 in
      let front : drop at drom ≡ L ∷ drop (suc at) drom = drop-cons drom at 0 h in
      ap (walk_of kinds at) front
      ∙ walk_on at L (drop (suc at) drom)
      ∙ ap (λ (t : List ℕ). and_then at (take L t) (front_of kinds L t) (walk_of kinds (at + L) (drop L t))) (sym front)
      ∙ ap (λ (t : List ℕ). and_then at (take L (drop at drom)) (front_of kinds L (drop at drom)) (walk_of kinds (at + L) t)) (drop-drop L at drom)

  -- and at its end
  pub walk_past : (drom : List ℕ) (at : ℕ) → length drom ≤ at → walk_of kinds at (drop at drom) ≡ end
  walk_past drom at h = ap (walk_of kinds at) (drop_of_length-le drom h) ∙ walk_end at

  -- ---- what stands at the front, case by case

  pub front_zero : (L : ℕ) (bs : List ℕ) → L ≡ 0 → front_of kinds L bs ≡ Err ZeroLength
  unfolding front_of
  front_zero L bs z = rw (eq-eqb L 0 z)

  module _ (L : ℕ) (bs : List ℕ) (some : L ≡ 0 → ⊥) where
    pub front_past : length bs < L → front_of kinds L bs ≡ Err PastEnd
    unfolding front_of
    front_past h = rw (ne_eqb L 0 some, lt-ltb (length bs) L h)

    pub front_whole : L ≤ length bs → front_of kinds L bs ≡ entry_of kinds (take L bs)
    unfolding front_of
    front_whole h = rw (ne_eqb L 0 some, le-ltb (length bs) L h)

  -- ---- stepping over entries

  -- r is the end of the one at an index
  pub record Passes (drom : List ℕ) (at r : ℕ) : Type 0 where
    pub on : at < r
    pub inside : r ≤ length drom
    pub ends : r ≡ at + get_or drom at 0
    pub entries : (walk_of kinds at (drop at drom)).entries ≡ piece_at drom at ∷ (walk_of kinds r (drop r drom)).entries

  module _ (drom : List ℕ) (at : ℕ) (h : at < length drom) where
    end_entry : (e : DromEntry) → front_at kinds drom at ≡ Ok e → end_at kinds drom at ≡ Some (at + get_or drom at 0)
    end_entry e f = rw f

    end_refused : (r : Refusal) → front_at kinds drom at ≡ Err r → end_at kinds drom at ≡ None
    end_refused r f = rw (no_entry kinds (get_or drom at 0) (drop at drom) r f)

    passes : (e : DromEntry) → front_at kinds drom at ≡ Ok e → Passes drom at (at + get_or drom at 0)
    passes e f =
        let in_front = front_inside kinds (get_or drom at 0) (drop at drom) e f in
        record {
          on = omega (arith, in_front.0);
          inside = omega (arith, length-drop at drom, in_front.1);
          ends = refl;
          entries = ap (λ (w : Walked). w.entries) (walk_at drom at h) ∙ rw f;
        }

    stays : (r : Refusal) → front_at kinds drom at ≡ Err r → (walk_of kinds at (drop at drom)).entries ≡ []
    stays r f = ap (λ (w : Walked). w.entries) (walk_at drom at h) ∙ rw f

    pub step_none : None ≡ end_at kinds drom at → (walk_of kinds at (drop at drom)).entries ≡ []
    step_none e = go (front_at kinds drom at) refl
      where
        go : (d : Result DromEntry Refusal) → front_at kinds drom at ≡ d → (walk_of kinds at (drop at drom)).entries ≡ []
        go (Ok x) f = absurd (cc (e ∙ end_entry x f))
        go (Err r) f = stays r f

    pub step_on : (r : ℕ) → Some r ≡ end_at kinds drom at → Passes drom at r
    step_on r e = go (front_at kinds drom at) refl
      where
        go : (d : Result DromEntry Refusal) → front_at kinds drom at ≡ d → Passes drom at r
        go (Ok x) f = let same : at + get_or drom at 0 ≡ r = cc (e ∙ end_entry x f) in subst (Passes drom at) same (passes x f)
        go (Err q) f = absurd (cc (e ∙ end_refused q f))

  -- at an index there is no entry, or a step over one
  abbrev pub Stepped : List ℕ → ℕ → Type 0
  Stepped drom at = ((walk_of kinds at (drop at drom)).entries ≡ []) ⊎ Passes drom at (at + get_or drom at 0)

  pub stepped : (drom : List ℕ) (at : ℕ) → Stepped drom at
  stepped drom at = go (ltb at (length drom)) refl
    where
      at_byte : at < length drom → (d : Result DromEntry Refusal) → front_at kinds drom at ≡ d → Stepped drom at
      at_byte h (Ok x) f = inr (passes drom at h x f)
      at_byte h (Err r) f = inl (stays drom at h r f)

      go : (b : Bool) → ltb at (length drom) ≡ b → Stepped drom at
      go true e = at_byte (ltb-true at (length drom) e) (front_at kinds drom at) refl
      go false e = inl (ap (λ (w : Walked). w.entries) (walk_past drom at (ltb-false at (length drom) e)))
