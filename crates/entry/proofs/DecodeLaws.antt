-- The laws of the decoding, each stated once over the row: which row an entry has, its least length, and what comes of it.
-- Assumes nothing.
use mathlib.Core.Path.{◌≡◌, refl, sym, ap, ◌∙◌}
use mathlib.Core.Bool.{Bool, true, false, cond}
use mathlib.Core.List.{List, [], ◌∷◌}
use mathlib.Core.Logic.{◌⊎◌, inl, inr}
use Prim.Native.Nat.{ℕ, ◌<◌, ◌≤◌, ◌/◌, ◌%◌}
use native.Mathlib.Omega.{arith}
use borrow.Author.Tests.{lt-ltb, le-ltb, le-leb, lt-leb, eq-eqb, ne_eqb}
use lib.Dec.{T, leb, ltb, eqb, ltb→lt}
use lib.ListN.{length}
use Rattle.bits.specs.Bits.{byte, bits, bit}
use Rattle.util.proofs.Rows.{split}
use Rattle.util.proofs.Table.{both, both_left, both_right}
use Rattle.entry.specs.Rows.{Row, unknown, adapter, unused, generic, least, no_text, text_in, choose, generic_rows, generic_row, adapter_rows, adapter_row, row_of}
use Rattle.std.specs.Prelude.{Option, Some, None, Result, Ok, Err}
use Rattle.entry.specs.declared.refusal.Refusal.{Refusal}
use Rattle.entry.specs.declared.refusal.Refusal.TheVariants.{TooShort}
use Rattle.entry.specs.Decode.{values_of, text_refusal, unless_refused, row_entry, decode_of}
use Rattle.entry.specs.declared.parse.DromEntry.{DromEntry}

-- an entry is no refusal
pub ok_err : {A : Type 0} {a : A} {r : Refusal} → ◌≡◌ {A = Result A Refusal} (Ok a) (Err r) → ⊥
ok_err d = cc

-- two answers that are equal have equal entries, or refusals
same_values_lem : {e f : DromEntry} → ◌≡◌ {A = Result DromEntry Refusal} (Ok e) (Ok f) → e ≡ f
same_values_lem d = cc

pub same_refusal : {A : Type 0} {r s : Refusal} → ◌≡◌ {A = Result A Refusal} (Err r) (Err s) → r ≡ s
same_refusal d = cc

-- ---- what comes of a row

module _ (row : Row) (bs : List ℕ) where
  pub row_short : length bs < least row bs → row_entry row bs ≡ Err TooShort
  unfolding row_entry
  row_short h = rw (lt-ltb (length bs) (least row bs) h)

  pub row_text : least row bs ≤ length bs → row_entry row bs ≡ unless_refused (text_refusal (text_in row) bs) (values_of row bs)
  unfolding row_entry
  row_text h = rw (le-ltb (length bs) (least row bs) h)

  pub row_plain : text_in row ≡ no_text → least row bs ≤ length bs → row_entry row bs ≡ Ok (values_of row bs)
  row_plain e h = row_text h ∙ rw e

  pub row_is_lem : {e : DromEntry} → text_in row ≡ no_text → least row bs ≤ length bs → e ≡ values_of row bs → Ok e ≡ row_entry row bs
  row_is_lem t h v = ap Ok v ∙ sym (row_plain t h)

  -- what comes of a row where the values are made of others, which are read
  module _ {A : Type 0} (f : A → DromEntry) (x : A) (v : f x ≡ values_of row bs) where
    -- the others, unless the entry is refused
    abbrev pub Read : Result A Refusal → Type 0
    Read answer = answer ≡ cond (ltb (length bs) (least row bs)) (Err TooShort) (unless_refused (text_refusal (text_in row) bs) x)

    read_long : least row bs ≤ length bs → {answer : Result A Refusal} → answer ≡ unless_refused (text_refusal (text_in row) bs) x → Read answer
    read_long h e = e ∙ rw (le-ltb (length bs) (least row bs) h)

    map : Result A Refusal → Result DromEntry Refusal
    map (Ok y) = Ok (f y)
    map (Err r) = Err r

    mapped : {answer : Result A Refusal} → Read answer → map answer ≡ row_entry row bs
    unfolding row_entry map
    mapped {answer} e = go (ltb (length bs) (least row bs)) (text_refusal (text_in row) bs) e
      where
        go : (t : Bool) (u : Option Refusal) → answer ≡ cond t (Err TooShort) (unless_refused u x) → map answer ≡ cond t (Err TooShort) (unless_refused u (values_of row bs))
        go true u e = ap map e
        go false None e = ap map e ∙ ap Ok v
        go false (Some r) e = ap map e

    pub read_ok : (y : A) → Read (Ok y) → Ok (f y) ≡ row_entry row bs
    unfolding map
    read_ok y e = mapped e

    pub read_err : (r : Refusal) → Read (Err r) → Err r ≡ row_entry row bs
    unfolding map
    read_err r e = mapped e

    pub text_ok : (y : A) → least row bs ≤ length bs → Ok y ≡ unless_refused (text_refusal (text_in row) bs) x → Ok (f y) ≡ row_entry row bs
    text_ok y h e = read_ok y (read_long h e)

    pub text_err : (r : Refusal) → least row bs ≤ length bs → Err r ≡ unless_refused (text_refusal (text_in row) bs) x → Err r ≡ row_entry row bs
    text_err r h e = read_err r (read_long h e)

  -- one of three things comes of it
  pub data Comes : Type 0 where
    short : length bs < least row bs → row_entry row bs ≡ Err TooShort → Comes
    unwell : (r : Refusal) → least row bs ≤ length bs → text_refusal (text_in row) bs ≡ Some r → row_entry row bs ≡ Err r → Comes
    well : least row bs ≤ length bs → text_refusal (text_in row) bs ≡ None → row_entry row bs ≡ Ok (values_of row bs) → Comes

  pub comes : Comes
  comes = go (split (length bs) (least row bs)) (text_refusal (text_in row) bs) refl
    where
      go : (length bs < least row bs) ⊎ (least row bs ≤ length bs) → (t : Option Refusal) → text_refusal (text_in row) bs ≡ t → Comes
      go (inl h) t k = short h (row_short h)
      go (inr h) None k = well h k (row_text h ∙ rw k)
      go (inr h) (Some r) k = unwell r h k (row_text h ∙ rw k)

  -- what an entry that is decoded tells
  pub decoded_values : (e : DromEntry) → row_entry row bs ≡ Ok e
      → (e ≡ values_of row bs) × (least row bs ≤ length bs) × (text_refusal (text_in row) bs ≡ None)
  decoded_values e d = go comes
    where
      go : Comes → (e ≡ values_of row bs) × (least row bs ≤ length bs) × (text_refusal (text_in row) bs ≡ None)
      go (short h r) = absurd (ok_err (sym d ∙ r))
      go (unwell n h k r) = absurd (ok_err (sym d ∙ r))
      go (well h t r) = (cc, h, t)

-- ---- the row of a kind

-- what holds of each row of a list, and of another, holds of the row that is chosen
abbrev Each : (Row → Type 0) → List (ℕ × Row) → Row → Type 0
Each P [] else = P else
Each P (r ∷ rows) else = P r.1 × Each P rows else

of_either : (P : Row → Type 0) (t : Bool) (a b : Row) → P a → P b → P (cond t a b)
of_either P true a b x y = x
of_either P false a b x y = y

chosen : (P : Row → Type 0) (k : ℕ) (rows : List (ℕ × Row)) (else : Row) → Each P rows else → P (choose k rows else)
chosen P k [] else h = h
chosen P k (r ∷ rows) else h = of_either P (eqb k r.0) r.1 (choose k rows else) h.0 (chosen P k rows else h.1)

-- a generic kind's least length before its bytes are read; DPTX's grows with them
abbrev pub least_of : ℕ → ℕ
least_of kind = least (generic_row kind) []

pub least_from : (kind : ℕ) (bs : List ℕ) → least_of kind ≤ least (generic_row kind) bs
least_from kind bs = chosen (λ (r : Row). least r [] ≤ least r bs) kind generic_rows generic (omega arith)

-- each number of the rows is below n
abbrev below : ℕ → List (ℕ × Row) → Bool
below n [] = true
below n (r ∷ rows) = both (ltb r.0 n) (below n rows)

module _ (k : ℕ) where
  -- k stands beside none of the rows, said after what is known already
  abbrev pub Apart : Type 0 → List (ℕ × Row) → Type 0
  Apart known [] = known
  Apart known (r ∷ rows) = Apart (known × (k ≡ r.0 → ⊥)) rows

  choose_none : (known : Type 0) (rows : List (ℕ × Row)) (else : Row) → Apart known rows → known × (choose k rows else ≡ else)
  choose_none known [] else h = (h, refl)
  choose_none known (r ∷ rows) else h =
      let rest = choose_none (known × (k ≡ r.0 → ⊥)) rows else h in
      (rest.0.0, rw (ne_eqb k r.0 rest.0.1) rest.1)

  apart_beyond : (n : ℕ) (known : Type 0) (rows : List (ℕ × Row)) → T (below n rows) → n ≤ k → known → Apart known rows
  apart_beyond n known [] t h p = p
  apart_beyond n known (r ∷ rows) t h p =
      let far : k ≡ r.0 → ⊥ = λ e. omega (arith, ltb→lt r.0 n (both_left (ltb r.0 n) (below n rows) t)) in
      apart_beyond n (known × (k ≡ r.0 → ⊥)) rows (both_right (ltb r.0 n) (below n rows) t) h (p, far)

  pub adapter_other : Apart (Unit {0}) adapter_rows → adapter_row k ≡ adapter
  adapter_other h = (choose_none (Unit {0}) adapter_rows adapter h).1

  pub generic_other : Apart (Unit {0}) generic_rows → generic_row k ≡ generic
  generic_other h = (choose_none (Unit {0}) generic_rows generic h).1

  pub generic_beyond : 17 ≤ k → generic_row k ≡ generic
  generic_beyond h = generic_other (apart_beyond 17 (Unit {0}) generic_rows tt h tt)

-- ---- the row of an entry

module _ (kind : ℕ) (bs : List ℕ) where
  pub row_unknown : length bs ≤ 1 → row_of kind bs ≡ unknown
  unfolding row_of
  row_unknown h = rw (le-leb (length bs) 1 h)

  module _ (h : 2 ≤ length bs) where
    pub row_generic : byte 1 bs < 128 → row_of kind bs ≡ generic_row (bits 5 0 (byte 1 bs))
    unfolding row_of
    row_generic l = rw (lt-leb (length bs) 1 h, ne_eqb (byte 1 bs / 128 % 2) 1 (λ e. omega arith))

    module _ (l : 128 ≤ byte 1 bs) (b : byte 1 bs < 256) where
      pub row_adapter : byte 1 bs < 192 → row_of kind bs ≡ adapter_row kind
      unfolding row_of
      row_adapter u =
          rw (lt-leb (length bs) 1 h, eq-eqb (byte 1 bs / 128 % 2) 1 (omega arith), ne_eqb (byte 1 bs / 64 % 2) 1 (λ e. omega arith))

      pub row_unused : 192 ≤ byte 1 bs → row_of kind bs ≡ unused
      unfolding row_of
      row_unused u =
          rw (lt-leb (length bs) 1 h, eq-eqb (byte 1 bs / 128 % 2) 1 (omega arith), eq-eqb (byte 1 bs / 64 % 2) 1 (omega arith))

  -- the entry of its row
  pub decode_row : (row : Row) → row_of kind bs ≡ row → decode_of kind bs ≡ row_entry row bs
  unfolding decode_of
  decode_row row e = ap (λ (r : Row). row_entry r bs) e

-- the listed kind counts only by the row of an adapter that it has
pub kind_matters : (j k : ℕ) (bs : List ℕ) → adapter_row j ≡ adapter_row k → decode_of j bs ≡ decode_of k bs
unfolding decode_of row_of
kind_matters j k bs e =
    ap (λ (r : Row). row_entry
    (cond (leb (length bs) 1) unknown (cond (bit 7 (byte 1 bs)) (cond (bit 6 (byte 1 bs)) unused r) (generic_row (bits 5 0 (byte 1 bs))))) bs) e
