-- A prefix and the whole: where the first bytes xs of a DROM xs ++ ys are in, and the header is accepted, the entries and records of the
-- prefix are the first of the whole DROM's; the next entry, if there is one, does not lie within xs; and a refusal that the prefix
-- has is the whole DROM's (`prefix_begins`).
-- Assumes nothing.
use Prim.Native.Nat.{ℕ, zero, suc, ◌+◌, ◌-◌, ◌%◌, ◌≤◌, ◌<◌}
use mathlib.Core.Path.{◌≡◌, refl, sym, ap, ap₂, subst, subst₂, ◌∙◌}
use mathlib.Core.List.{List, [], ◌∷◌, ◌++◌, flatten}
use mathlib.Core.Bool.{Bool, true, false, cond, not, ◌&&◌}
use native.Mathlib.Nat.{not-suc-le-zero}
use native.Mathlib.Omega.{arith}
use lib.ListN.{length, get_or, take, drop, length-append, length-drop, drop_of_length-le, get_or-append}
use lib.Seq.{length-take-le, take-append-le, drop-append-le}
use lib.Dec.{ltb, eqb}
use borrow.Author.Tests.{ltb-true, ltb-false, eqb-true, eqb-false}
use Rattle.bits.specs.Bits.{le2}
use Rattle.std.specs.Prelude.{Result, Ok, Err}
use Rattle.entry.specs.declared.parse.DromEntry.{DromEntry}
use Rattle.entry.specs.declared.refusal.Refusal.{Refusal}
use Rattle.entry.specs.declared.refusal.Refusal.TheVariants.{ZeroLength, PastEnd}
use Rattle.entry.specs.Refusals.{refusal_number}
use Rattle.record.specs.Record.{record_of}
use Rattle.drom.specs.Numbers.{first_of}
use Rattle.drom.specs.Header.{is_tbt3, body_start, header_number}
use Rattle.drom.specs.Walk.{Walked, entry_of, front_of, end, and_then, walk_of, stop}
use Rattle.drom.specs.Report.{walk_in}
use Rattle.drom.proofs.WalkLaws.{front_inside, walk_end, walk_on, front_zero, front_past, front_whole}
use Rattle.feed.specs.Prefix.{so_far_by, prefix_of}
use Rattle.feed.proofs.PrefixEntries.{so_six, so_seven, so_part, so_entry}
use Rattle.feed.proofs.PrefixHeader.{so_nil}
use Rattle.feed.proofs.PrefixLaws.{prefix_walked}

-- the walk p over the bytes bs that are there, and the walk w over all
pub record Begins (bs : List ℕ) (p w : Walked) : Type 0 where
  pub later : List (List ℕ)
  pub others : List (List ℕ)
  pub entries : w.entries ≡ p.entries ++ later
  pub records : w.records ≡ p.records ++ others
  pub incomplete : (e : List ℕ) (es : List (List ℕ)) → later ≡ e ∷ es → length bs < length (flatten p.entries) + length e
  pub refused : (p.number ≡ 0 → ⊥) → (w.number ≡ p.number) × (w.offset ≡ p.offset) × (later ≡ []) × (others ≡ [])

nothing : (bs : List ℕ) (w : Walked) → ((e : List ℕ) (es : List (List ℕ)) → w.entries ≡ e ∷ es → length bs < length e) → Begins bs end w
unfolding flatten
nothing bs w h =
    record {
      later = w.entries;
      others = w.records;
      entries = refl;
      records = refl;
      incomplete = λ e es q. let m = h e es q in omega arith;
      refused = λ z. absurd (z refl);
    }

no_more : (e : List ℕ) (es : List (List ℕ)) → ◌≡◌ {A = List (List ℕ)} [] (e ∷ es) → ⊥
no_more e es q = omega (arith, ap length q)

stopped : (bs : List ℕ) (n at : ℕ) → Begins bs (stop n at) (stop n at)
stopped bs n at =
    record { later = []; others = []; entries = refl; records = refl; incomplete = λ e es q. absurd (no_more e es q); refused = λ z. (refl, refl, refl, refl) }

onward : (at l : ℕ) (bs : List ℕ) (d : DromEntry) (p w : Walked) → l ≤ length bs → Begins (drop l bs) p w
    → Begins bs (and_then at (take l bs) (Ok d) p) (and_then at (take l bs) (Ok d) w)
unfolding flatten
onward at l bs d p w n b =
    record {
      later = b.later;
      others = b.others;
      entries = ap (λ (v : List (List ℕ)). take l bs ∷ v) b.entries;
      records = ap (λ (v : List (List ℕ)). record_of at (take l bs) d ∷ v) b.records;
      incomplete =
          λ e es q.
          let m = b.incomplete e es q in
          omega (arith, m, length-append (take l bs) (flatten p.entries), length-take-le l bs n, length-drop l bs);
      refused = b.refused;
    }

module _ (kinds : ℕ → ℕ) where
  -- the first entry of a walk is as long as its first byte says
  first_on : (at L : ℕ) (bs e : List ℕ) (es : List (List ℕ)) → (d : Result DromEntry Refusal) → front_of kinds L (L ∷ bs) ≡ d
      → (and_then at (take L (L ∷ bs)) d (walk_of kinds (at + L) (drop L (L ∷ bs)))).entries ≡ e ∷ es → (length e ≡ L) × (0 < L)
  first_on at L bs e es (Ok x) f q =
      let inside = front_inside kinds L (L ∷ bs) x f in
      let same : take L (L ∷ bs) ≡ e = ap (λ (v : List (List ℕ)). get_or v 0 []) q in
      (ap length (sym same) ∙ length-take-le L (L ∷ bs) inside.1, inside.0)
  first_on at L bs e es (Err n) f q = absurd (no_more e es q)

  first : (at L : ℕ) (bs e : List ℕ) (es : List (List ℕ)) → (walk_of kinds at (L ∷ bs)).entries ≡ e ∷ es → (length e ≡ L) × (0 < L)
  first at L bs e es q = first_on at L bs e es (front_of kinds L (L ∷ bs)) refl (sym (ap (λ (w : Walked). w.entries) (walk_on kinds at L bs)) ∙ q)

  first_some : (at : ℕ) (ys e : List ℕ) (es : List (List ℕ)) → (walk_of kinds at ys).entries ≡ e ∷ es → 0 < length e
  first_some at [] e es q = absurd (no_more e es (sym (ap (λ (w : Walked). w.entries) (walk_end kinds at)) ∙ q))
  first_some at (L ∷ bs) e es q = let m = first at L bs e es q in omega (arith, m.0, m.1)

  -- no byte is there
  begins_none : (at : ℕ) (ys : List ℕ) → Begins [] end (walk_of kinds at ys)
  begins_none at ys = nothing [] (walk_of kinds at ys) (λ e es q. first_some at ys e es q)

  abbrev Start : ℕ → ℕ → List ℕ → List ℕ → Type 0
  Start k at bs ys = Begins bs (so_far_by k kinds at (length (bs ++ ys)) bs) (walk_of kinds at (bs ++ ys))

  module _ (k at l : ℕ) (t ys : List ℕ) (ih : 0 < l → Start k (at + l) (drop l (l ∷ t)) ys) where
    xs : List ℕ
    xs = l ∷ t

    all : List ℕ
    all = l ∷ (t ++ ys)

    Goal : Type 0
    Goal = Begins xs (so_far_by (suc k) kinds at (length all) xs) (walk_of kinds at all)

    front : (d : Result DromEntry Refusal) → front_of kinds l all ≡ d → and_then at (take l all) d (walk_of kinds (at + l) (drop l all)) ≡ walk_of kinds at all
    unfolding all
    front d e = ap (λ (x : Result DromEntry Refusal). and_then at (take l all) x (walk_of kinds (at + l) (drop l all))) (sym e) ∙ sym (walk_on kinds at l (t ++ ys))

    six : l ≡ 0 → Goal
    unfolding Goal xs all
    six z = subst₂ (Begins xs) (sym (so_six kinds k at (length all) l t z)) (front (Err ZeroLength) (front_zero kinds l all z)) (stopped xs 6 at)

    seven : (l ≡ 0 → ⊥) → length all < l → Goal
    unfolding Goal xs all
    seven z p = subst₂ (Begins xs) (sym (so_seven kinds k at (length all) l t z p)) (front (Err PastEnd) (front_past kinds l all z p)) (stopped xs 7 at)

    part : (l ≡ 0 → ⊥) → l ≤ length all → length xs < l → Goal
    unfolding Goal xs all
    part z p n =
        subst (λ (v : Walked). Begins xs v (walk_of kinds at all)) (sym (so_part kinds k at (length all) l t z p n))
        (nothing xs (walk_of kinds at all) (λ e es q. let m = first at l (t ++ ys) e es q in omega (arith, m.0)))

    whole : (l ≡ 0 → ⊥) → l ≤ length all → l ≤ length xs → (d : Result DromEntry Refusal) → entry_of kinds (take l xs) ≡ d → Goal
    unfolding Goal xs all
    whole z p n d f =
        let same : take l all ≡ take l xs = take-append-le l xs ys n in
        let rest : drop l all ≡ drop l xs ++ ys = drop-append-le l xs ys n in
        let size : length (drop l xs ++ ys) ≡ length all - l = omega (arith, length-append (drop l xs) ys, length-append t ys, length-drop l xs) in
        let read : entry_of kinds (take l all) ≡ d = ap (entry_of kinds) same ∙ f in
        let left : so_far_by (suc k) kinds at (length all) xs ≡ and_then at (take l xs) d (so_far_by k kinds (at + l) (length (drop l xs ++ ys)) (drop l xs)) =
        so_entry kinds k at (length all) l t z p n
        ∙ ap₂ (λ (x : Result DromEntry Refusal) (m : ℕ). and_then at (take l xs) x (so_far_by k kinds (at + l) m (drop l xs))) f (sym size)
        in
        let right : walk_of kinds at all ≡ and_then at (take l xs) d (walk_of kinds (at + l) (drop l xs ++ ys)) =
        sym (front d (front_whole kinds l all z p ∙ read))
        ∙ ap₂ (λ (e v : List ℕ). and_then at e d (walk_of kinds (at + l) v)) same rest
        in
        subst₂ (Begins xs) (sym left) (sym right) (go d (ih (omega arith)))
      where
        go : (d : Result DromEntry Refusal) → Start k (at + l) (drop l xs) ys
            → Begins xs (and_then at (take l xs) d (so_far_by k kinds (at + l) (length (drop l xs ++ ys)) (drop l xs))) (and_then at (take l xs) d (walk_of kinds (at + l) (drop l xs ++ ys)))
        go (Ok e) b = onward at l xs e _ _ n b
        go (Err j) b = stopped xs (refusal_number j) at

    turn : Goal
    turn = go (eqb l 0) refl
      where
        go₂ : (l ≡ 0 → ⊥) → l ≤ length all → (u : Bool) → ltb (length xs) l ≡ u → Goal
        go₂ z p true e = part z p (ltb-true (length xs) l e)
        go₂ z p false e = whole z p (ltb-false (length xs) l e) (entry_of kinds (take l xs)) refl

        go₁ : (l ≡ 0 → ⊥) → (u : Bool) → ltb (length all) l ≡ u → Goal
        go₁ z true e = seven z (ltb-true (length all) l e)
        go₁ z false e = go₂ z (ltb-false (length all) l e) (ltb (length xs) l) refl

        go : (u : Bool) → eqb l 0 ≡ u → Goal
        go true e = six (eqb-true l 0 e)
        go false e = go₁ (eqb-false l 0 e) (ltb (length all) l) refl

  begins : (k at : ℕ) (bs ys : List ℕ) → length bs ≤ k → Start k at bs ys
  unfolding so_far_by Goal xs all
  begins zero at [] ys h = begins_none at ys
  begins zero at (l ∷ t) ys h = absurd (not-suc-le-zero h)
  begins (suc k) at [] ys h = begins_none at ys
  begins (suc k) at (l ∷ t) ys h = turn k at l t ys (λ p. begins k (at + l) (drop l (l ∷ t)) ys (omega (arith, length-drop l (l ∷ t))))

  -- ---- behind a header

  module _ (bs ys : List ℕ) (long : 16 ≤ length bs) where
    byte_at : (i : ℕ) → i < 16 → get_or (bs ++ ys) i 0 ≡ get_or bs i 0
    byte_at i h = get_or-append bs ys 0 i (omega arith)

    tbt3_at : is_tbt3 (bs ++ ys) ≡ is_tbt3 bs
    tbt3_at = ap (λ (v : ℕ). ltb v 3) (byte_at 13 (omega arith))

    start_at : body_start (bs ++ ys) ≡ body_start bs
    start_at = ap (λ (t : Bool). cond t 22 16) tbt3_at

    -- the first 16 bytes have the verdict of all
    pub number_at : (size : ℕ) → header_number size (bs ++ ys) ≡ header_number size bs
    number_at size =
        ap₂ (λ (n : ℕ) (t : Bool). first_of ((not (eqb (n + 13) size), 2) ∷ (t && ltb size 22, 3) ∷ []))
        (ap₂ (λ (a b : ℕ). le2 a b % 4096) (byte_at 14 (omega arith)) (byte_at 15 (omega arith))) tbt3_at

    behind : (st : ℕ) → Begins (drop st bs) (so_far_by (length bs) kinds st (length (bs ++ ys) - st) (drop st bs)) (walk_of kinds st (drop st (bs ++ ys)))
    behind st = go (ltb (length bs) st) refl
      where
        go : (u : Bool) → ltb (length bs) st ≡ u → Begins (drop st bs) (so_far_by (length bs) kinds st (length (bs ++ ys) - st) (drop st bs)) (walk_of kinds st (drop st (bs ++ ys)))
        go true e =
            let n = ltb-true (length bs) st e in
            let none : drop st bs ≡ [] = drop_of_length-le bs {i = st} (omega arith) in
            subst (λ (v : List ℕ). Begins v (so_far_by (length bs) kinds st (length (bs ++ ys) - st) v) (walk_of kinds st (drop st (bs ++ ys)))) (sym none)
            (subst (λ (v : Walked). Begins [] v (walk_of kinds st (drop st (bs ++ ys)))) (sym (so_nil kinds (length bs) st (length (bs ++ ys) - st))) (begins_none st (drop st (bs ++ ys))))
        go false e =
            let n = ltb-false (length bs) st e in
            let size : length (drop st bs ++ ys) ≡ length (bs ++ ys) - st = omega (arith, length-append (drop st bs) ys, length-append bs ys, length-drop st bs) in
            subst₂ (λ (m : ℕ) (v : List ℕ). Begins (drop st bs) (so_far_by (length bs) kinds st m (drop st bs)) (walk_of kinds st v)) size (sym (drop-append-le st bs ys n))
            (begins (length bs) st (drop st bs) ys (omega (arith, length-drop st bs)))

    pub prefix_begins : header_number (length (bs ++ ys)) (bs ++ ys) ≡ 0
        → Begins (drop (body_start bs) bs) (prefix_of kinds (length (bs ++ ys)) bs) (walk_in kinds (bs ++ ys))
    prefix_begins h =
        subst₂ (Begins (drop (body_start bs) bs))
        (sym (prefix_walked (length (bs ++ ys)) kinds bs long (sym (number_at (length (bs ++ ys))) ∙ h)))
        (ap (λ (st : ℕ). walk_of kinds st (drop st (bs ++ ys))) (sym start_at))
        (behind (body_start bs))
