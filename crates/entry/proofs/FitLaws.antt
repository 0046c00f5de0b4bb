-- The theorem that decoding is refused exactly where the entry is not fit for its kind (`fit_decodes`, `unfit_refused`), and with which
-- numbers (`decoded_number_lem`, `number_fit`).
-- Assumes nothing.
use mathlib.Core.Path.{◌≡◌, refl, sym, ap, subst, ◌∙◌}
use mathlib.Core.Bool.{Bool, true, false, cond}
use mathlib.Core.List.{List, [], ◌∷◌}
use mathlib.Core.Logic.{◌⊎◌, inl, inr, ◌↔◌}
use Prim.Native.Nat.{ℕ, suc, ◌≤◌, ◌<◌, ◌%◌}
use native.Mathlib.Omega.{arith}
use borrow.Author.Tests.{eq-eqb, ne_eqb}
use lib.Dec.{eqb}
use lib.ListN.{length, drop, get_or}
use Rattle.util.specs.Utf8.{is_utf8}
use Rattle.util.proofs.Rows.{split}
use Rattle.util.proofs.Utf8Means.{utf8_means}
use Rattle.entry.specs.Names.{has_zero, before_zero}
use Rattle.entry.specs.Rows.{Text, no_text, name, utf16_from, text_in, row_of}
use Rattle.entry.specs.Decode.{values_of, name_of, too_short, no_zero, not_utf8, odd_utf16, name_refusal, utf16_refusal, text_refusal, row_entry, decode_of, decoded_number}
use Rattle.entry.specs.Fit.{Name, TextFits, Fit}
use Rattle.std.specs.Prelude.{Option, Some, None, Result, Ok, Err, ⊤}
use Rattle.entry.specs.declared.parse.DromEntry.{DromEntry}
use Rattle.entry.specs.declared.refusal.Refusal.{Refusal}
use Rattle.entry.specs.declared.refusal.Refusal.TheVariants.{TooFew, WrongLength, ShortTbt3, SmallBuffer, OddList, ZeroLength, PastEnd, TooShort, NoZero, NotUtf8, OddUtf16, Beyond, Missing, Outside}
use Rattle.entry.specs.Refusals.{refusal_number, answer_number}
use Rattle.entry.proofs.NameLaws.{before_free, zero_splits, joined_zero, joined_before}
use Rattle.entry.proofs.DecodeLaws.{row_text, Comes, short, unwell, well, comes, decoded_values, ok_err}

some_none : {r : Refusal} → ◌≡◌ {A = Option Refusal} (Some r) None → ⊥
some_none e = cc

-- ---- a text is refused exactly where it doesn't fit, and with 9, 10 or 11

-- a name's, by its two tests
name_refused : (bs : List ℕ) (z u : Bool) → has_zero (drop 2 bs) ≡ z → is_utf8 (name_of bs) ≡ u
    → name_refusal bs ≡ cond z (cond u None (Some NotUtf8)) (Some NoZero)
unfolding name_refusal
name_refused bs z u e f = rw (e, f)

name_well : (bs : List ℕ) (z u : Bool) → has_zero (drop 2 bs) ≡ z → is_utf8 (name_of bs) ≡ u → name_refusal bs ≡ None → (z ≡ true) × (u ≡ true)
name_well bs true true e f h = (refl, refl)
name_well bs true false e f h = absurd (some_none (sym (name_refused bs true false e f) ∙ h))
name_well bs false u e f h = absurd (some_none (sym (name_refused bs false u e f) ∙ h))

name_fits : (bs : List ℕ) → name_refusal bs ≡ None ↔ Name (drop 2 bs)
name_fits bs = (to, from)
  where
    to : name_refusal bs ≡ None → Name (drop 2 bs)
    to h =
        let w = name_well bs (has_zero (drop 2 bs)) (is_utf8 (name_of bs)) refl refl h in
        record {
          text = name_of bs;
          rest = drop (suc (length (name_of bs))) (drop 2 bs);
          closed = zero_splits (drop 2 bs) w.0;
          free = before_free (drop 2 bs);
          utf8 = (utf8_means (name_of bs)).0 w.1;
        }

    from : Name (drop 2 bs) → name_refusal bs ≡ None
    from n =
        name_refused bs true true (ap has_zero n.closed ∙ joined_zero n.rest n.text)
        (ap is_utf8 (ap before_zero n.closed ∙ joined_before n.rest n.text n.free) ∙ (utf8_means n.text).1 n.utf8)

-- a UTF-16 part's
odd : (text : List ℕ) → 1 ≤ length text % 2 → utf16_refusal text ≡ Some OddUtf16
odd text h = rw (eq-eqb (length text % 2) 1 (omega arith))

even : (text : List ℕ) → length text % 2 ≡ 0 → utf16_refusal text ≡ None
even text h = rw (ne_eqb (length text % 2) 1 (λ e. omega arith))

utf16_fits : (text : List ℕ) → utf16_refusal text ≡ None ↔ (length text % 2 ≡ 0)
utf16_fits text = (to (split (length text % 2) 1), even text)
  where
    to : (length text % 2 < 1) ⊎ (1 ≤ length text % 2) → utf16_refusal text ≡ None → length text % 2 ≡ 0
    to (inl l) h = omega arith
    to (inr l) h = absurd (some_none (sym (odd text l) ∙ h))

pub text_fits : (t : Text) (bs : List ℕ) → text_refusal t bs ≡ None ↔ TextFits t bs
text_fits no_text bs = (λ e. tt, λ u. refl)
text_fits name bs = name_fits bs
text_fits (utf16_from i) bs = utf16_fits (drop i bs)

-- what a refused text is refused with
abbrev Numbered : Option Refusal → Type 0
Numbered None = Unit {0}
Numbered (Some r) = (9 ≤ refusal_number r) × (refusal_number r ≤ 11)

numbered : (t : Text) (bs : List ℕ) → Numbered (text_refusal t bs)
unfolding name_refusal
numbered no_text bs = tt
numbered name bs = go (has_zero (drop 2 bs)) (is_utf8 (name_of bs))
  where
    go : (z u : Bool) → Numbered (cond z (cond u None (Some NotUtf8)) (Some NoZero))
    go true true = tt
    go true false = omega arith
    go false u = omega arith
numbered (utf16_from i) bs = go (eqb (length (drop i bs) % 2) 1)
  where
    go : (o : Bool) → Numbered (cond o (Some OddUtf16) None)
    go true = omega arith
    go false = tt

pub text_number : (t : Text) (bs : List ℕ) (r : Refusal) → text_refusal t bs ≡ Some r → (9 ≤ refusal_number r) × (refusal_number r ≤ 11)
text_number t bs r e = subst Numbered e (numbered t bs)

-- ---- the theorem

module _ (kind : ℕ) (bs : List ℕ) where
  pub fit_values : Fit kind bs → decode_of kind bs ≡ Ok (values_of (row_of kind bs) bs)
  unfolding decode_of
  fit_values f = row_text (row_of kind bs) bs f.long ∙ rw ((text_fits (text_in (row_of kind bs)) bs).1 f.text)

  pub decoded_fit : (e : DromEntry) → decode_of kind bs ≡ Ok e → Fit kind bs
  unfolding decode_of
  decoded_fit e d =
      let v = decoded_values (row_of kind bs) bs e d in
      record { long = v.1; text = (text_fits (text_in (row_of kind bs)) bs).0 v.2 }

  pub fit_decodes : Fit kind bs ↔ ((e : DromEntry) × (decode_of kind bs ≡ Ok e))
  fit_decodes = (λ f. (values_of (row_of kind bs) bs, fit_values f), λ d. decoded_fit d.0 d.1)

  unfit : (Fit kind bs → ⊥) → Comes (row_of kind bs) bs → (r : Refusal) × (decode_of kind bs ≡ Err r)
  unfolding decode_of
  unfit n (short h e) = (TooShort, e)
  unfit n (unwell r h w e) = (r, e)
  unfit n (well h w e) = absurd (n (record { long = h; text = (text_fits (text_in (row_of kind bs)) bs).0 w }))

  pub unfit_refused : (Fit kind bs → ⊥) ↔ ((r : Refusal) × (decode_of kind bs ≡ Err r))
  unfit_refused = (λ n. unfit n (comes (row_of kind bs) bs), λ r f. ok_err (sym (fit_values f) ∙ r.1))

  number : (r : Refusal) → row_entry (row_of kind bs) bs ≡ Err r → Comes (row_of kind bs) bs → (8 ≤ refusal_number r) × (refusal_number r ≤ 11)
  number r d (short h e) = let same : TooShort ≡ r = cc in rw (← same) (omega arith)
  number r d (unwell s h w e) =
      let same : s ≡ r = cc in
      let told = text_number (text_in (row_of kind bs)) bs s w in
      rw (← same) (omega arith)
  number r d (well h w e) = absurd (ok_err (sym e ∙ d))

  -- the numbers are 8, 9, 10 and 11
  pub refused_number : (r : Refusal) → decode_of kind bs ≡ Err r → (8 ≤ refusal_number r) × (refusal_number r ≤ 11)
  unfolding decode_of
  refused_number r d = number r d (comes (row_of kind bs) bs)

  -- the number of decoding: 0, or 8 to 11
  pub decoded_number_lem : (decoded_number (decode_of kind bs) ≡ 0) ⊎ ((8 ≤ decoded_number (decode_of kind bs)) × (decoded_number (decode_of kind bs) ≤ 11))
  decoded_number_lem = go (decode_of kind bs) refl
    where
      go : (d : Result DromEntry Refusal) → decode_of kind bs ≡ d → (decoded_number d ≡ 0) ⊎ ((8 ≤ decoded_number d) × (decoded_number d ≤ 11))
      go (Ok e) h = inl refl
      go (Err r) h = inr (refused_number r h)

  -- and 0 exactly where the entry is fit for its kind
  pub number_fit : decoded_number (decode_of kind bs) ≡ 0 ↔ Fit kind bs
  number_fit = (go (decode_of kind bs) refl, λ f. ap decoded_number (fit_values f))
    where
      go : (d : Result DromEntry Refusal) → decode_of kind bs ≡ d → decoded_number d ≡ 0 → Fit kind bs
      go (Ok e) h z = decoded_fit e h
      go (Err r) h z = absurd (omega (arith, refused_number r h))

-- 0 is no refusal's number
pub some_number : (r : Refusal) → 1 ≤ refusal_number r
some_number TooFew = omega arith
some_number WrongLength = omega arith
some_number ShortTbt3 = omega arith
some_number SmallBuffer = omega arith
some_number OddList = omega arith
some_number ZeroLength = omega arith
some_number PastEnd = omega arith
some_number TooShort = omega arith
some_number NoZero = omega arith
some_number NotUtf8 = omega arith
some_number OddUtf16 = omega arith
some_number Beyond = omega arith
some_number Missing = omega arith
some_number Outside = omega arith

-- a number is one refusal's at most, so that what a call answers is known by its number
by_number : ℕ → Refusal
by_number n =
    get_or (Outside ∷ TooFew ∷ WrongLength ∷ ShortTbt3 ∷ SmallBuffer ∷ OddList ∷ ZeroLength ∷ PastEnd ∷ TooShort ∷ NoZero ∷ NotUtf8 ∷ OddUtf16 ∷ Beyond ∷ Missing ∷ [])
    n Outside

by_own_number : (r : Refusal) → by_number (refusal_number r) ≡ r
unfolding by_number
by_own_number TooFew = refl
by_own_number WrongLength = refl
by_own_number ShortTbt3 = refl
by_own_number SmallBuffer = refl
by_own_number OddList = refl
by_own_number ZeroLength = refl
by_own_number PastEnd = refl
by_own_number TooShort = refl
by_own_number NoZero = refl
by_own_number NotUtf8 = refl
by_own_number OddUtf16 = refl
by_own_number Beyond = refl
by_own_number Missing = refl
by_own_number Outside = refl

pub same_number : (r s : Refusal) → refusal_number r ≡ refusal_number s → r ≡ s
same_number r s e = sym (by_own_number r) ∙ ap by_number e ∙ by_own_number s

-- and with it what answers a refusal or nothing
pub same_answer : (a b : Result ⊤ Refusal) → answer_number a ≡ answer_number b → a ≡ b
same_answer (Ok x) (Ok y) e = refl
same_answer (Ok x) (Err s) e = absurd (omega (arith, some_number s))
same_answer (Err r) (Ok y) e = absurd (omega (arith, some_number r))
same_answer (Err r) (Err s) e = ap (λ (q : Refusal). Err q) (same_number r s e)

-- the numbers of an entry's refusals are those of specs/Decode
pub entry_numbers : (refusal_number TooShort ≡ too_short) × (refusal_number NoZero ≡ no_zero) × (refusal_number NotUtf8 ≡ not_utf8) × (refusal_number OddUtf16 ≡ odd_utf16)
entry_numbers = (refl, refl, refl, refl)
