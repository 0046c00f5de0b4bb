-- The bounds of a state as facts: what a state holds that passes their test (`within_of`), and that a state of which the facts hold passes
-- it (`in_within`).
-- Assumes nothing.
use Prim.Native.Nat.{ℕ, ◌+◌, ◌-◌, ◌*◌, ◌≤◌, ◌<◌}
use mathlib.Core.Path.{◌≡◌, refl, sym, ap, ◌∙◌}
use mathlib.Core.List.{List, [], ◌∷◌}
use mathlib.Core.Logic.{◌⊎◌, inl, inr}
use mathlib.Core.Bool.{Bool, true, false, cond, not, ◌&&◌, ◌||◌, false≢true, or-true}
use native.Mathlib.Omega.{arith}
use lib.Dec.{ltb, leb, eqb}
use borrow.Author.Tests.{ltb-true, ltb-false, leb-true, leb-false, eqb-true, eqb-false, lt-ltb, le-ltb, le-leb, eq-eqb, ne_eqb}
use Rattle.bits.specs.Bits.{byte}
use Rattle.drom.specs.Numbers.{wrong_length, short_tbt3, odd_list, small_buffer, too_few, first_of}
use Rattle.drom.specs.Header.{length_in, is_tbt3, body_start, header_number}
use Rattle.feed.specs.declared.feeding.Core.{Core}
use Rattle.feed.specs.Run.{Run}
use Rattle.feed.specs.Feed.{state_after}
use Rattle.feed.specs.Bounds.{among, header_passes, records_fit, pending_fits, nothing_refused, nothing_read, opening_refused, header_refused, entry_refused, in_bounds}

-- ---- tests

pub and_both : (a b : Bool) → a && b ≡ true → (a ≡ true) × (b ≡ true)
and_both true b e = (refl, e)
and_both false b e = absurd (false≢true e)

or_either : (a b : Bool) → a || b ≡ true → (a ≡ true) ⊎ (b ≡ true)
or_either true b e = inl refl
or_either false b e = inr e

-- ---- the header

pub start_least : (h : List ℕ) → 16 ≤ body_start h
start_least h = go (is_tbt3 h)
  where
    go : (t : Bool) → 16 ≤ cond t 22 16
    go true = omega arith
    go false = omega arith

pub start_small : (h : List ℕ) → body_start h ≤ 22
start_small h = go (is_tbt3 h)
  where
    go : (t : Bool) → cond t 22 16 ≤ 22
    go true = omega arith
    go false = omega arith

-- a header that passes states the size
pub header_length : (size : ℕ) (h : List ℕ) → header_number size h ≡ 0 → length_in h + 13 ≡ size
header_length size h v = go (eqb (length_in h + 13) size) refl v
  where
    go : (t : Bool) → eqb (length_in h + 13) size ≡ t → first_of ((not t, wrong_length) ∷ (is_tbt3 h && ltb size 22, short_tbt3) ∷ []) ≡ 0 → length_in h + 13 ≡ size
    go true e q = eqb-true _ _ e
    go false e q = absurd (omega arith)

pub header_small : (size : ℕ) (h : List ℕ) → header_number size h ≡ 0 → size ≤ 4108
header_small size h v = omega (arith, header_length size h v)

-- what a header's number can be
pub header_numbers : (size : ℕ) (h : List ℕ) → (header_number size h ≡ 0) ⊎ ((header_number size h ≡ 2) ⊎ (header_number size h ≡ 3))
header_numbers size h = go (eqb (length_in h + 13) size) (is_tbt3 h && ltb size 22)
  where
    go : (p q : Bool) → (first_of ((not p, 2) ∷ (q, 3) ∷ []) ≡ 0) ⊎ ((first_of ((not p, 2) ∷ (q, 3) ∷ []) ≡ 2) ⊎ (first_of ((not p, 2) ∷ (q, 3) ∷ []) ≡ 3))
    go false q = inr (inl refl)
    go true true = inr (inr refl)
    go true false = inl refl

-- ---- the facts

pub record Fit (past count written : ℕ) : Type 0 where
  pub fewer : count ≤ past
  pub least : 4 * count ≤ written
  pub most : written ≤ 4 * past

fit_of : {past count written : ℕ} → records_fit past count written ≡ true → Fit past count written
fit_of e =
    let p = and_both _ _ e in
    let q = and_both _ _ p.0 in
    record { fewer = leb-true _ _ q.0; least = leb-true _ _ q.1; most = leb-true _ _ p.1 }

in_fit : {past count written : ℕ} → Fit past count written → records_fit past count written ≡ true
in_fit f = rw (le-leb _ _ f.fewer, le-leb _ _ f.least, le-leb _ _ f.most)

pub record Going (c : Core) (h p : List ℕ) : Type 0 where
  pub none : c.refusal ≡ 0
  pub size : 16 ≤ c.announced
  pub passes : 16 ≤ c.taken → header_number c.announced h ≡ 0
  pub unset : c.offset ≡ 0
  pub kept : c.fill ≤ c.taken - body_start h
  pub cut : (c.fill ≡ 0) ⊎ ((c.fill < byte 0 p) × (byte 0 p ≤ c.announced - (c.taken - c.fill)))
  pub fit : Fit (c.taken - body_start h - c.fill) c.count c.written

pub record Unread (c : Core) : Type 0 where
  pub offset : c.offset ≡ 0
  pub fill : c.fill ≡ 0
  pub count : c.count ≡ 0
  pub written : c.written ≡ 0

pub record AtOpening (c : Core) : Type 0 where
  pub number : among c.refusal (odd_list ∷ small_buffer ∷ too_few ∷ []) ≡ true
  pub announced : c.announced ≡ 0
  pub unread : Unread c

pub record AtHeader (c : Core) (h : List ℕ) : Type 0 where
  pub late : 16 ≤ c.taken
  pub number : header_number c.announced h ≡ c.refusal
  pub some : c.refusal ≡ 0 → ⊥
  pub unread : Unread c

pub record AtEntry (c : Core) (h : List ℕ) : Type 0 where
  pub least : 6 ≤ c.refusal
  pub most : c.refusal ≤ 11
  pub passes : header_number c.announced h ≡ 0
  pub behind : body_start h ≤ c.offset
  pub come : c.fill < c.taken - c.offset
  pub fit : Fit (c.offset - body_start h) c.count c.written

pub data Within (c : Core) (h p : List ℕ) : Type 0 where
  going : Going c h p → Within c h p
  opening : AtOpening c → Within c h p
  header : AtHeader c h → Within c h p
  entry : AtEntry c h → Within c h p

-- ---- of a state that passes the test

pub bounds_within : (c : Core) (h p : List ℕ) → in_bounds c h p ≡ true → c.taken ≤ c.announced
unfolding in_bounds
bounds_within c h p e = leb-true _ _ (and_both _ _ e).0

header_or : (c : Core) (h : List ℕ) → (ltb c.taken 16 || header_passes c h) ≡ true → 16 ≤ c.taken → header_number c.announced h ≡ 0
header_or c h e n = go (or_either _ _ e)
  where
    go : (ltb c.taken 16 ≡ true) ⊎ (header_passes c h ≡ true) → header_number c.announced h ≡ 0
    go (inl t) = absurd (omega (arith, ltb-true c.taken 16 t))
    go (inr t) = eqb-true _ _ t

-- a body is small where its header passes, and none is in before
pub body_few : (c : Core) (h : List ℕ) → c.taken ≤ c.announced → (16 ≤ c.taken → header_number c.announced h ≡ 0) → c.taken - body_start h ≤ 4108
body_few c h w passes = go (leb 16 c.taken) refl
  where
    go : (t : Bool) → leb 16 c.taken ≡ t → c.taken - body_start h ≤ 4108
    go true q = omega (arith, header_small c.announced h (passes (leb-true 16 c.taken q)))
    go false q = omega (arith, start_least h, leb-false 16 c.taken q)

pub body_small : (c : Core) (h : List ℕ) → c.taken ≤ c.announced → (ltb c.taken 16 || header_passes c h) ≡ true → c.taken - body_start h ≤ 4108
body_small c h w e = body_few c h w (header_or c h e)

unread_of : (c : Core) → nothing_read c ≡ true → Unread c
unread_of c e =
    let p = and_both _ _ e in
    let q = and_both _ _ p.0 in
    let r = and_both _ _ q.0 in
    record { offset = eqb-true _ _ r.0; fill = eqb-true _ _ r.1; count = eqb-true _ _ q.1; written = eqb-true _ _ p.1 }

-- an opening's refusal is a number
pub opening_some : (n : ℕ) → among n (odd_list ∷ small_buffer ∷ too_few ∷ []) ≡ true → n ≡ 0 → ⊥
opening_some n e z = false≢true (sym (ap (λ (m : ℕ). among m (odd_list ∷ small_buffer ∷ too_few ∷ [])) z) ∙ e)

module _ (c : Core) (h p : List ℕ) where
  cut_of : pending_fits c p ≡ true → (c.fill ≡ 0) ⊎ ((c.fill < byte 0 p) × (byte 0 p ≤ c.announced - (c.taken - c.fill)))
  cut_of e = go (or_either _ _ e)
    where
      go : (eqb c.fill 0 ≡ true) ⊎ (ltb c.fill (byte 0 p) && leb (byte 0 p) (c.announced - (c.taken - c.fill)) ≡ true)
          → (c.fill ≡ 0) ⊎ ((c.fill < byte 0 p) × (byte 0 p ≤ c.announced - (c.taken - c.fill)))
      go (inl t) = inl (eqb-true _ _ t)
      go (inr t) = let q = and_both _ _ t in inr (ltb-true _ _ q.0, leb-true _ _ q.1)

  going_of : c.refusal ≡ 0 → nothing_refused c h p ≡ true → Going c h p
  unfolding nothing_refused
  going_of z e =
      let p₁ = and_both _ _ e in
      let p₂ = and_both _ _ p₁.0 in
      let p₃ = and_both _ _ p₂.0 in
      let p₄ = and_both _ _ p₃.0 in
      let p₅ = and_both _ _ p₄.0 in
      record {
        none = z;
        size = leb-true _ _ p₅.0;
        passes = header_or c h p₅.1;
        unset = eqb-true _ _ p₄.1;
        kept = leb-true _ _ p₃.1;
        cut = cut_of p₂.1;
        fit = fit_of p₁.1;
      }

  opening_of : among c.refusal (odd_list ∷ small_buffer ∷ too_few ∷ []) ≡ true → opening_refused c ≡ true → AtOpening c
  unfolding opening_refused
  opening_of n e = let p = and_both _ _ e in record { number = n; announced = eqb-true _ _ p.0; unread = unread_of c p.1 }

  header_of : (c.refusal ≡ 0 → ⊥) → header_refused c h ≡ true → AtHeader c h
  unfolding header_refused
  header_of n e =
      let p = and_both _ _ e in
      let q = and_both _ _ p.0 in
      record { late = leb-true _ _ q.0; number = eqb-true _ _ q.1; some = n; unread = unread_of c p.1 }

  entry_of : 6 ≤ c.refusal → entry_refused c h ≡ true → AtEntry c h
  unfolding entry_refused
  entry_of n e =
      let p₁ = and_both _ _ e in
      let p₂ = and_both _ _ p₁.0 in
      let p₃ = and_both _ _ p₂.0 in
      let p₄ = and_both _ _ p₃.0 in
      record {
        least = n;
        most = leb-true _ _ p₄.0;
        passes = eqb-true _ _ p₄.1;
        behind = leb-true _ _ p₃.1;
        come = ltb-true _ _ p₂.1;
        fit = fit_of p₁.1;
      }

  pub within_of : in_bounds c h p ≡ true → Within c h p
  unfolding in_bounds
  within_of e = go (eqb c.refusal 0) (among c.refusal (odd_list ∷ small_buffer ∷ too_few ∷ [])) (ltb c.refusal 6) refl refl refl (and_both (leb c.taken c.announced) _ e).1
    where
      go : (t u v : Bool) → eqb c.refusal 0 ≡ t → among c.refusal (odd_list ∷ small_buffer ∷ too_few ∷ []) ≡ u → ltb c.refusal 6 ≡ v
          → cond t (nothing_refused c h p) (cond u (opening_refused c) (cond v (header_refused c h) (entry_refused c h))) ≡ true → Within c h p
      go true u v q r s x = going (going_of (eqb-true _ _ q) x)
      go false true v q r s x = opening (opening_of r x)
      go false false true q r s x = header (header_of (eqb-false _ _ q) x)
      go false false false q r s x = entry (entry_of (ltb-false _ _ s) x)

  -- ---- and again: the facts make the test

  in_cut : (c.fill ≡ 0) ⊎ ((c.fill < byte 0 p) × (byte 0 p ≤ c.announced - (c.taken - c.fill))) → pending_fits c p ≡ true
  in_cut (inl z) = rw (eq-eqb _ _ z)
  in_cut (inr x) = rw (lt-ltb _ _ x.0, le-leb _ _ x.1) (or-true (eqb c.fill 0))

  in_header_or : (16 ≤ c.taken → header_number c.announced h ≡ 0) → (ltb c.taken 16 || header_passes c h) ≡ true
  in_header_or f = go (ltb c.taken 16) refl
    where
      go : (t : Bool) → ltb c.taken 16 ≡ t → (t || header_passes c h) ≡ true
      go true e = refl
      go false e = eq-eqb _ _ (f (ltb-false _ _ e))

  in_unread : Unread c → nothing_read c ≡ true
  in_unread u = rw (eq-eqb _ _ u.offset, eq-eqb _ _ u.fill, eq-eqb _ _ u.count, eq-eqb _ _ u.written)

  header_number_lem : (n : ℕ) → header_number c.announced h ≡ n → (n ≡ 0 → ⊥) → (n < 6) × (among n (odd_list ∷ small_buffer ∷ too_few ∷ []) ≡ false)
  header_number_lem n e z = go (header_numbers c.announced h)
    where
      go : (header_number c.announced h ≡ 0) ⊎ ((header_number c.announced h ≡ 2) ⊎ (header_number c.announced h ≡ 3))
          → (n < 6) × (among n (odd_list ∷ small_buffer ∷ too_few ∷ []) ≡ false)
      go (inl q) = absurd (z (sym e ∙ q))
      go (inr (inl q)) = let m : n ≡ 2 = sym e ∙ q in (omega arith, rw m)
      go (inr (inr q)) = let m : n ≡ 3 = sym e ∙ q in (omega arith, rw m)

  late_number : (n : ℕ) → 6 ≤ n → among n (odd_list ∷ small_buffer ∷ too_few ∷ []) ≡ false
  late_number n l = rw (ne_eqb n 5 (λ z. omega arith), ne_eqb n 4 (λ z. omega arith), ne_eqb n 1 (λ z. omega arith))

  pub in_within : c.taken ≤ c.announced → Within c h p → in_bounds c h p ≡ true
  unfolding in_bounds nothing_refused opening_refused header_refused entry_refused
  in_within w (going g) =
      rw (
        le-leb _ _ w,
        eq-eqb _ _ g.none,
        le-leb _ _ g.size,
        in_header_or g.passes,
        eq-eqb _ _ g.unset,
        le-leb _ _ g.kept,
        in_cut g.cut,
        in_fit g.fit,
      )
  in_within w (opening o) =
      rw (le-leb _ _ w, ne_eqb _ _ (opening_some c.refusal o.number), o.number, eq-eqb _ _ o.announced, in_unread o.unread)
  in_within w (header a) =
      let n = header_number_lem c.refusal a.number a.some in
      rw (le-leb _ _ w, ne_eqb _ _ a.some, n.1, lt-ltb _ _ n.0, le-leb _ _ a.late, eq-eqb _ _ a.number, in_unread a.unread)
  in_within w (entry a) =
      rw (
        le-leb _ _ w,
        ne_eqb c.refusal 0 (λ z. omega (arith, a.least)),
        late_number c.refusal a.least,
        le-ltb _ _ a.least,
        le-leb _ _ a.most,
        eq-eqb _ _ a.passes,
        le-leb _ _ a.behind,
        lt-ltb _ _ a.come,
        in_fit a.fit,
      )

-- what a state can hold as its refusal
pub refusal_most : (c : Core) (h p : List ℕ) → in_bounds c h p ≡ true → c.refusal ≤ 11
refusal_most c h p e = go (within_of c h p e)
  where
    early_number : (n : ℕ) → among n (odd_list ∷ small_buffer ∷ too_few ∷ []) ≡ true → n ≤ 5
    early_number n q = by (leb n 5) refl
      where
        by : (t : Bool) → leb n 5 ≡ t → n ≤ 5
        by true t = leb-true n 5 t
        by false t = absurd (false≢true (sym (late_number c h p n (leb-false n 5 t)) ∙ q))

    go : Within c h p → c.refusal ≤ 11
    go (going g) = omega (arith, g.none)
    go (opening o) = omega (arith, early_number c.refusal o.number)
    go (header a) = omega (arith, (header_number_lem c h p c.refusal a.number a.some).0)
    go (entry a) = a.most

-- the bounds do not look at the register
pub beside_register : (r : Run) (register : ℕ) (h p : List ℕ) → in_bounds (state_after r register).core h p ≡ in_bounds r.core h p
unfolding in_bounds nothing_refused opening_refused header_refused entry_refused
beside_register r register h p = refl
