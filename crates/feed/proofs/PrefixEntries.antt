-- Between two entries: whatever bytes come then, count, written, refusal, offset and every byte of the buffer are what the walk
-- over those bytes says (`agree`); and after a refusal all of these stay (`stays`).
-- Assumes nothing.
use Prim.Native.Nat.{ℕ, zero, suc, ◌+◌, ◌-◌, ◌≤◌, ◌<◌}
use mathlib.Core.Path.{◌≡◌, refl, sym, ap, subst, subst₂, ◌∙◌}
use mathlib.Core.List.{List, [], ◌∷◌, flatten}
use mathlib.Core.Bool.{Bool, true, false}
use native.Mathlib.Omega.{arith}
use lib.ListN.{length, get_or, take, drop, length-append, take-append-drop, length-drop}
use lib.Seq.{sets, length-sets, take-length, length-take-le, get_or-drop}
use lib.Dec.{ltb, eqb}
use borrow.Author.Tests.{lt-ltb, le-ltb, eq-eqb, ne_eqb, ltb-true, ltb-false, eqb-true, eqb-false}
use Rattle.bits.specs.Bits.{Bytes}
use Rattle.std.specs.Prelude.{Result, Ok, Err}
use Rattle.entry.specs.declared.parse.DromEntry.{DromEntry}
use Rattle.entry.specs.declared.refusal.Refusal.{Refusal}
use Rattle.entry.specs.Refusals.{refusal_number}
use Rattle.entry.specs.Decode.{number_of, decode_of}
use Rattle.entry.proofs.FitLaws.{refused_number}
use Rattle.record.specs.Record.{record_of}
use Rattle.drom.specs.Header.{body_start}
use Rattle.drom.specs.Walk.{Walked, entry_of, end, and_then, stop}
use Rattle.feed.specs.declared.feeding.Core.{Core}
use Rattle.feed.specs.Run.{Run, run, with_core, counted, refused, recorded, pending_at, ended, step_of, steps}
use Rattle.feed.specs.Prefix.{so_far_by}
use Rattle.feed.proofs.EntryBytes.{sets_append, Between, placed, entering, wholly, whole_entry}
use Rattle.feed.proofs.EntryBytes.{whole as whole_run}
use Rattle.feed.proofs.StepLaws.{next, ended_record, ended_refused, step_refused, step_zero, step_past, steps_nil, steps_cons, steps_append}

-- ---- after a refusal nothing changes but the count of bytes

abbrev pub Still : Run → Run → Type 0
Still r s =
    (s.core.refusal ≡ r.core.refusal) × (s.core.offset ≡ r.core.offset) × (s.core.count ≡ r.core.count)
    × (s.core.written ≡ r.core.written) × (s.buffer ≡ r.buffer)

pub stays : (r : Run) (xs : List ℕ) → (r.core.refusal ≡ 0 → ⊥) → Still r (steps r xs)
stays r [] h = rw steps_nil (refl, refl, refl, refl, refl)
stays r (x ∷ xs) h = rw (steps_cons, step_refused r x h) (stays (next r) xs h)

-- between two entries
pub record Rest (r : Run) : Type 0 where
  pub going : r.core.refusal ≡ 0
  pub nowhere : r.core.offset ≡ 0
  pub empty : r.core.fill ≡ 0
  pub late : 16 ≤ r.core.taken
  pub past : body_start r.header ≤ r.core.taken
  pub long : length r.pending ≡ 255

between : {r : Run} → Rest r → Between r
between q = record { going = q.going; empty = q.empty; late = q.late; past = q.past; long = q.long }

-- ---- a whole entry

-- after the entry e, which is decoded to d, the reader is between two entries again, and has written e's record
pub record Entered (r : Run) (e : List ℕ) (d : DromEntry) (s : Run) : Type 0 where
  pub rest : Rest s
  pub count : s.core.count ≡ r.core.count + 1
  pub written : s.core.written ≡ r.core.written + length (record_of r.core.taken e d)
  pub buffer : s.buffer ≡ sets r.buffer r.core.written (record_of r.core.taken e d)
  pub kinds : s.kinds ≡ r.kinds
  pub taken : s.core.taken ≡ r.core.taken + length e
  pub announced : s.core.announced ≡ r.core.announced

-- what the last byte of an entry leaves: c and p are the core and the pending bytes as the entry is whole
abbrev WholeAt : Run → List ℕ → Core → List ℕ → Type 0
WholeAt r e c p =
    (c.refusal ≡ 0) × (c.offset ≡ 0) × (c.count ≡ r.core.count) × (c.written ≡ r.core.written) × (c.announced ≡ r.core.announced)
    × (c.taken ≡ r.core.taken + length e) × (length p ≡ 255) × (take (c.fill + 1) p ≡ e) × (16 ≤ c.taken) × (body_start r.header ≤ c.taken) × (c.fill + 1 ≡ length e)

-- the kinds of a table
abbrev pub kinds_in : List ℕ → ℕ → ℕ
kinds_in table n = get_or table n 0

module _ (r : Run) (e : List ℕ) (c : Core) (p : List ℕ) (h : WholeAt r e c p) where
  at : pending_at c ≡ r.core.taken
  at = omega (arith, h.5, h.10)

  whole : Run
  whole = run c r.header p r.kinds r.buffer

  decoded : (d : Result DromEntry Refusal) → entry_of (kinds_in r.kinds) e ≡ d → decode_of (get_or r.kinds (number_of (take (c.fill + 1) p)) 0) (take (c.fill + 1) p) ≡ d
  decoded d z = ap (entry_of (kinds_in r.kinds)) h.7 ∙ z

  entered_at : (d : DromEntry) → entry_of (kinds_in r.kinds) e ≡ Ok d → Entered r e d (ended whole)
  unfolding whole
  entered_at d z =
      let rc : record_of (pending_at c) (take (c.fill + 1) p) d ≡ record_of r.core.taken e d =
      ap (λ (v : List ℕ). record_of (pending_at c) v d) h.7 ∙ ap (λ (k : ℕ). record_of k e d) at
      in
      let q : ended whole ≡ run (recorded c (length (record_of r.core.taken e d))) r.header p r.kinds (sets r.buffer c.written (record_of r.core.taken e d)) =
      ended_record whole d (decoded (Ok d) z) ∙ ap (λ (v : List ℕ). run (recorded c (length v)) r.header p r.kinds (sets r.buffer c.written v)) rc
      in
      rw q
      record {
        rest = record { going = h.0; nowhere = h.1; empty = refl; late = h.8; past = h.9; long = h.6 };
        count = ap (λ (k : ℕ). k + 1) h.2;
        written = ap (λ (k : ℕ). k + length (record_of r.core.taken e d)) h.3;
        buffer = ap (λ (k : ℕ). sets r.buffer k (record_of r.core.taken e d)) h.3;
        kinds = refl;
        taken = h.5;
        announced = h.4;
      }

  -- after a whole entry that is refused
  abbrev Rejected : ℕ → Run → Type 0
  Rejected n s =
      (s.core.refusal ≡ n) × (s.core.offset ≡ r.core.taken) × (s.core.count ≡ r.core.count) × (s.core.written ≡ r.core.written) × (s.buffer ≡ r.buffer)

  rejected_at : (n : Refusal) → entry_of (kinds_in r.kinds) e ≡ Err n → Rejected (refusal_number n) (ended whole)
  unfolding whole
  rejected_at n z = rw (ended_refused whole n (decoded (Err n) z)) (refl, at, h.2, h.3, refl)

-- the bytes of a whole entry lead to its end
pub record Ended (r : Run) (e : List ℕ) : Type 0 where
  pub core : Core
  pub bytes : List ℕ
  pub is : steps r e ≡ ended (run core r.header bytes r.kinds r.buffer)
  pub all : WholeAt r e core bytes

ending : (r : Run) (l : ℕ) (t : List ℕ) → Rest r → l < 256 → 0 < l → l ≤ r.core.announced - r.core.taken → l ≤ length (l ∷ t) → Ended r (take l (l ∷ t))
ending r l t q b z a n =
    let w = between q in
    let size : length (take l (l ∷ t)) ≡ l = length-take-le l (l ∷ t) n in
    record {
      core = (whole_run r l t w z b a n).core;
      bytes = (whole_run r l t w z b a n).pending;
      is = wholly r l t w z b a n;
      all = (
        q.going,
        q.nowhere,
        refl,
        refl,
        refl,
        ap (λ (k : ℕ). r.core.taken + k) (sym size),
        length-sets r.pending 0 (take l (l ∷ t)) ∙ q.long,
        whole_entry r l t w z b a n,
        omega (arith, q.late),
        omega (arith, q.past),
        omega (arith, size),
      );
    }

-- ---- the whole walk

-- what a run from r to s has done is what w says
pub record Agrees (r : Run) (w : Walked) (s : Run) : Type 0 where
  pub number : s.core.refusal ≡ w.number
  pub offset : s.core.offset ≡ w.offset
  pub count : s.core.count ≡ r.core.count + length w.records
  pub written : s.core.written ≡ r.core.written + length (flatten w.records)
  pub buffer : s.buffer ≡ sets r.buffer r.core.written (flatten w.records)

-- nothing recorded, and the number and offset that s has
pub plain : (r s : Run) (n at : ℕ) → s.core.refusal ≡ n → s.core.offset ≡ at → s.core.count ≡ r.core.count → s.core.written ≡ r.core.written → s.buffer ≡ r.buffer
    → Agrees r (stop n at) s
unfolding flatten
plain r s n at a b c d e = record { number = a; offset = b; count = omega arith; written = omega arith; buffer = e }

-- nothing seen
quiet : (r s : Run) → Rest r → Still r s → Agrees r end s
quiet r s q h = plain r s 0 0 (h.0 ∙ q.going) (h.1 ∙ q.nowhere) h.2 h.3 h.4

-- an entry, and what comes after it
onward : (r : Run) (e : List ℕ) (d : DromEntry) (r' : Run) (w : Walked) (s : Run) → Entered r e d r' → Agrees r' w s → Agrees r (and_then r.core.taken e (Ok d) w) s
unfolding flatten
onward r e d r' w s h g =
    let rc : List ℕ = record_of r.core.taken e d in
    let rest : List ℕ = flatten w.records in
    record {
      number = g.number;
      offset = g.offset;
      count = omega (arith, g.count, h.count);
      written = omega (arith, g.written, h.written, length-append rc rest);
      buffer =
          g.buffer ∙ ap (λ (v : List ℕ). sets v r'.core.written rest) h.buffer
          ∙ ap (λ (k : ℕ). sets (sets r.buffer r.core.written rc) k rest) h.written
          ∙ sym (sets_append r.buffer r.core.written rc rest);
    }

module _ (kinds : ℕ → ℕ) (k at left l : ℕ) (t : List ℕ) where
  pub so_six : l ≡ 0 → so_far_by (suc k) kinds at left (l ∷ t) ≡ stop 6 at
  unfolding so_far_by
  so_six e = rw (eq-eqb l 0 e)

  pub so_seven : (l ≡ 0 → ⊥) → left < l → so_far_by (suc k) kinds at left (l ∷ t) ≡ stop 7 at
  unfolding so_far_by
  so_seven z h = rw (ne_eqb l 0 z, lt-ltb left l h)

  pub so_part : (l ≡ 0 → ⊥) → l ≤ left → length (l ∷ t) < l → so_far_by (suc k) kinds at left (l ∷ t) ≡ end
  unfolding so_far_by
  so_part z h n = rw (ne_eqb l 0 z, le-ltb left l h, lt-ltb (length (l ∷ t)) l n)

  pub so_entry : (l ≡ 0 → ⊥) → l ≤ left → l ≤ length (l ∷ t)
      → so_far_by (suc k) kinds at left (l ∷ t) ≡ and_then at (take l (l ∷ t)) (entry_of kinds (take l (l ∷ t))) (so_far_by k kinds (at + l) (left - l) (drop l (l ∷ t)))
  unfolding so_far_by
  so_entry z h n = rw (ne_eqb l 0 z, le-ltb left l h, le-ltb (length (l ∷ t)) l n)

abbrev Agree : ℕ → Run → List ℕ → Type 0
Agree k r xs =
    Rest r → Bytes xs → length xs ≤ k → length xs ≤ r.core.announced - r.core.taken
    → Agrees r (so_far_by k (kinds_in r.kinds) r.core.taken (r.core.announced - r.core.taken) xs) (steps r xs)

module _ (k : ℕ) (ih : (r : Run) (xs : List ℕ) → Agree k r xs) (r : Run) (l : ℕ) (t : List ℕ) (q : Rest r) (b : Bytes (l ∷ t))
    (h : length (l ∷ t) ≤ suc k) (a : length (l ∷ t) ≤ r.core.announced - r.core.taken) where
  Goal : Type 0
  Goal = Agrees r (so_far_by (suc k) (kinds_in r.kinds) r.core.taken (r.core.announced - r.core.taken) (l ∷ t)) (steps r (l ∷ t))

  whole_turn : (l ≡ 0 → ⊥) → l ≤ r.core.announced - r.core.taken → l ≤ length (l ∷ t) → (d : Result DromEntry Refusal) → entry_of (kinds_in r.kinds) (take l (l ∷ t)) ≡ d → Goal
  unfolding Goal whole
  whole_turn z p n (Ok d) ok =
      let xs : List ℕ = l ∷ t in
      let e : List ℕ = take l xs in
      let r' : Run = steps r e in
      let en₀ : Ended r e = ending r l t q (b 0) (omega arith) p n in
      let en : Entered r e d r' = subst (Entered r e d) (sym en₀.is) (entered_at r e en₀.core en₀.bytes en₀.all d ok) in
      let el : length e ≡ l = length-take-le l xs n in
      let dl = length-drop l xs in
      let far : r'.core.taken ≡ r.core.taken + l = en.taken ∙ ap (λ (j : ℕ). r.core.taken + j) el in
      let lf : r'.core.announced - r'.core.taken ≡ r.core.announced - r.core.taken - l = omega (arith, en.announced, far) in
      let g = ih r' (drop l xs) en.rest (λ i. rw get_or-drop (b (l + i))) (omega arith) (omega arith) in
      let g' : Agrees r' (so_far_by k (kinds_in r.kinds) (r.core.taken + l) (r.core.announced - r.core.taken - l) (drop l xs)) (steps r' (drop l xs)) =
      subst (λ (K : List ℕ). Agrees r' (so_far_by k (kinds_in K) (r.core.taken + l) (r.core.announced - r.core.taken - l) (drop l xs)) (steps r' (drop l xs))) en.kinds
      (subst₂ (λ (x y : ℕ). Agrees r' (so_far_by k (kinds_in r'.kinds) x y (drop l xs)) (steps r' (drop l xs))) far lf g)
      in
      rw (so_entry (kinds_in r.kinds) k r.core.taken (r.core.announced - r.core.taken) l t z p n, ok)
      (subst (λ (v : List ℕ). Agrees r (and_then r.core.taken e (Ok d) (so_far_by k (kinds_in r.kinds) (r.core.taken + l) (r.core.announced - r.core.taken - l) (drop l xs))) (steps r v)) (take-append-drop l xs)
      (rw steps_append (onward r e d r' _ _ en g')))
  whole_turn z p n (Err j) bad =
      let xs : List ℕ = l ∷ t in
      let e : List ℕ = take l xs in
      let r' : Run = steps r e in
      let en₀ : Ended r e = ending r l t q (b 0) (omega arith) p n in
      let w = subst (Rejected r e en₀.core en₀.bytes en₀.all (refusal_number j)) (sym en₀.is) (rejected_at r e en₀.core en₀.bytes en₀.all j bad) in
      let some : 8 ≤ refusal_number j = (refused_number (kinds_in r.kinds (number_of e)) e j bad).0 in
      let m = stays r' (drop l xs) (λ v. omega (arith, w.0)) in
      rw (so_entry (kinds_in r.kinds) k r.core.taken (r.core.announced - r.core.taken) l t z p n, bad)
      (subst (λ (v : List ℕ). Agrees r (stop (refusal_number j) r.core.taken) (steps r v)) (take-append-drop l xs)
      (rw steps_append (plain r (steps r' (drop l xs)) (refusal_number j) r.core.taken (m.0 ∙ w.0) (m.1 ∙ w.1) (m.2 ∙ w.2) (m.3 ∙ w.3) (m.4 ∙ w.4))))

  part_turn : (l ≡ 0 → ⊥) → l ≤ r.core.announced - r.core.taken → length (l ∷ t) < l → Goal
  unfolding Goal
  part_turn z p n =
      let e : steps r (l ∷ t) ≡ placed r (r.core.taken + length (l ∷ t)) (length (l ∷ t)) (sets r.pending 0 (l ∷ t)) =
      subst (λ (u : List ℕ). steps r u ≡ placed r (r.core.taken + length (l ∷ t)) (length (l ∷ t)) (sets r.pending 0 u)) (take-length (l ∷ t))
      (entering r l t (length (l ∷ t)) (between q) p n (omega arith))
      in
      rw (so_part (kinds_in r.kinds) k r.core.taken (r.core.announced - r.core.taken) l t z p n, e)
      (quiet r (placed r (r.core.taken + length (l ∷ t)) (length (l ∷ t)) (sets r.pending 0 (l ∷ t))) q (refl, refl, refl, refl, refl))

  stop_turn : (n : ℕ) → (n ≡ 0 → ⊥) → step_of r l ≡ with_core r (refused (counted r.core) n r.core.taken) → Agrees r (stop n r.core.taken) (steps r (l ∷ t))
  stop_turn n z e =
      let r' : Run = with_core r (refused (counted r.core) n r.core.taken) in
      let m = stays r' t z in
      rw (steps_cons, e) (plain r (steps r' t) n r.core.taken m.0 m.1 m.2 m.3 m.4)

  six_turn : l ≡ 0 → Goal
  unfolding Goal
  six_turn z =
      rw (so_six (kinds_in r.kinds) k r.core.taken (r.core.announced - r.core.taken) l t z)
      (stop_turn 6 (λ w. omega arith) (step_zero r l q.going q.late q.past q.empty z))

  seven_turn : (l ≡ 0 → ⊥) → r.core.announced - r.core.taken < l → Goal
  unfolding Goal
  seven_turn z p =
      rw (so_seven (kinds_in r.kinds) k r.core.taken (r.core.announced - r.core.taken) l t z p)
      (stop_turn 7 (λ w. omega arith) (step_past r l q.going q.late q.past q.empty z p))

  turn : Goal
  turn = go (eqb l 0) refl
    where
      go₂ : (l ≡ 0 → ⊥) → l ≤ r.core.announced - r.core.taken → (u : Bool) → ltb (length (l ∷ t)) l ≡ u → Goal
      go₂ z p true e = part_turn z p (ltb-true (length (l ∷ t)) l e)
      go₂ z p false e = whole_turn z p (ltb-false (length (l ∷ t)) l e) (entry_of (kinds_in r.kinds) (take l (l ∷ t))) refl

      go₁ : (l ≡ 0 → ⊥) → (u : Bool) → ltb (r.core.announced - r.core.taken) l ≡ u → Goal
      go₁ z true e = seven_turn z (ltb-true (r.core.announced - r.core.taken) l e)
      go₁ z false e = go₂ z (ltb-false (r.core.announced - r.core.taken) l e) (ltb (length (l ∷ t)) l) refl

      go : (u : Bool) → eqb l 0 ≡ u → Goal
      go true e = six_turn (eqb-true l 0 e)
      go false e = go₁ (eqb-false l 0 e) (ltb (r.core.announced - r.core.taken) l) refl

pub agree : (k : ℕ) (r : Run) (xs : List ℕ) → Agree k r xs
unfolding so_far_by Goal
agree zero r [] q b h a = rw steps_nil (quiet r r q (refl, refl, refl, refl, refl))
agree zero r (l ∷ t) q b h a = absurd (omega arith)
agree (suc k) r [] q b h a = rw steps_nil (quiet r r q (refl, refl, refl, refl, refl))
agree (suc k) r (l ∷ t) q b h a = turn k (λ r' xs. agree k r' xs) r l t q b h a
