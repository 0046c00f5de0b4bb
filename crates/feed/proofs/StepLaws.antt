-- What one byte does to a run, case by case; that a byte keeps the bounds; and that pieces can be cut anywhere.
-- Assumes nothing.
use Prim.Native.Nat.{ℕ, zero, suc, ◌+◌, ◌-◌, ◌≤◌, ◌<◌}
use mathlib.Core.Path.{◌≡◌, refl, ap, ◌∙◌}
use mathlib.Core.List.{List, [], ◌∷◌, ◌++◌}
use mathlib.Core.Bool.{Bool, true, false}
use native.Mathlib.Omega.{arith}
use lib.ListN.{length, get_or, set, length-set}
use lib.Seq.{sets, length-sets, length-take-le}
use lib.Dec.{ltb, eqb}
use borrow.Author.Tests.{lt-ltb, le-ltb, eq-eqb, ne_eqb, ltb-true, ltb-false, eqb-true, eqb-false}
use Rattle.std.specs.Prelude.{Result, Ok, Err}
use Rattle.entry.specs.declared.parse.DromEntry.{DromEntry}
use Rattle.entry.specs.declared.refusal.Refusal.{Refusal}
use Rattle.entry.specs.Refusals.{refusal_number}
use Rattle.entry.specs.Decode.{number_of, decode_of}
use Rattle.entry.proofs.FitLaws.{refused_number}
use Rattle.record.specs.Record.{record_of}
use Rattle.record.proofs.WriteLaws.{written_room}
use Rattle.drom.specs.Numbers.{zero_length, past_end}
use Rattle.drom.specs.Header.{body_start, header_number}
use Rattle.feed.specs.declared.feeding.Core.{Core}
use Rattle.feed.specs.Run.{Run, run, with_core, with_pending, counted, refused, filled, recorded, judged, pending_entry, pending_at, ended_by, ended, kept, begun, headed, step_of, steps}
use Rattle.feed.specs.Loop.{Live, Good}
use Rattle.feed.proofs.BoundsLaws.{header_length}

-- a byte is counted
abbrev pub next : Run → Run
next r = with_core r (counted r.core)

-- ---- an entry that is whole

-- what the pending entry decodes to
abbrev pub pending_is : Run → Result DromEntry Refusal
pending_is r = decode_of (get_or r.kinds (number_of (pending_entry r)) 0) (pending_entry r)

abbrev pub pending_record : Run → DromEntry → List ℕ
pending_record r e = record_of (pending_at r.core) (pending_entry r) e

module _ (r : Run) where
  pub ended_record : (e : DromEntry) → pending_is r ≡ Ok e
      → ended r ≡ run (recorded r.core (length (pending_record r e))) r.header r.pending r.kinds (sets r.buffer r.core.written (pending_record r e))
  unfolding ended
  ended_record e d = ap (ended_by r) d

  pub ended_refused : (n : Refusal) → pending_is r ≡ Err n → ended r ≡ with_core r (refused r.core (refusal_number n) (pending_at r.core))
  unfolding ended
  ended_refused n d = ap (ended_by r) d

  pub ended_cases : (P : Run → Type 0)
      → ((e : DromEntry) → pending_is r ≡ Ok e → P (run (recorded r.core (length (pending_record r e))) r.header r.pending r.kinds (sets r.buffer r.core.written (pending_record r e))))
      → ((n : Refusal) → pending_is r ≡ Err n → P (with_core r (refused r.core (refusal_number n) (pending_at r.core))))
      → P (ended r)
  ended_cases P f g = go (pending_is r) refl
    where
      go : (d : Result DromEntry Refusal) → pending_is r ≡ d → P (ended r)
      go (Ok e) q = rw (ended_record e q) (f e q)
      go (Err n) q = rw (ended_refused n q) (g n q)

-- ---- a byte of an entry

-- the pending bytes with a byte more
abbrev pub more : Run → ℕ → List ℕ
more r b = set r.pending r.core.fill b

module _ (r : Run) (b : ℕ) where
  -- of a length l that was computed
  pub kept_more : (l : ℕ) → l ≡ get_or (more r b) 0 0 → r.core.fill + 1 < l
      → kept r b ≡ with_pending r (filled r.core (r.core.fill + 1)) (more r b)
  unfolding kept
  kept_more l e h = rw (← e, lt-ltb _ _ h)

  pub kept_last : (l : ℕ) → l ≡ get_or (more r b) 0 0 → l ≤ r.core.fill + 1
      → kept r b ≡ ended (with_pending r r.core (more r b))
  unfolding kept
  kept_last l e h = rw (← e, le-ltb _ _ h)

  pub kept_cases : (P : Run → Type 0)
      → (r.core.fill + 1 < get_or (more r b) 0 0 → P (with_pending r (filled r.core (r.core.fill + 1)) (more r b)))
      → (get_or (more r b) 0 0 ≤ r.core.fill + 1 → P (ended (with_pending r r.core (more r b))))
      → P (kept r b)
  kept_cases P f g = go (ltb (r.core.fill + 1) (get_or (more r b) 0 0)) refl
    where
      go : (t : Bool) → ltb (r.core.fill + 1) (get_or (more r b) 0 0) ≡ t → P (kept r b)
      go true e = rw (kept_more _ refl (ltb-true _ _ e)) (f (ltb-true _ _ e))
      go false e = rw (kept_last _ refl (ltb-false _ _ e)) (g (ltb-false _ _ e))

-- ---- a first byte of an entry

module _ (r : Run) (at b : ℕ) where
  pub begun_zero : b ≡ 0 → begun r at b ≡ with_core r (refused r.core zero_length at)
  unfolding begun
  begun_zero z = rw (eq-eqb b 0 z)

  pub begun_past : (b ≡ 0 → ⊥) → r.core.announced - at < b → begun r at b ≡ with_core r (refused r.core past_end at)
  unfolding begun
  begun_past z p = rw (ne_eqb b 0 z, lt-ltb (r.core.announced - at) b p)

  pub begun_kept : (b ≡ 0 → ⊥) → b ≤ r.core.announced - at → begun r at b ≡ kept r b
  unfolding begun
  begun_kept z p = rw (ne_eqb b 0 z, le-ltb (r.core.announced - at) b p)

-- ---- the header

pub judged_is : (c : Core) (h : List ℕ) → judged c h ≡ refused c (header_number c.announced h) 0
unfolding judged
judged_is c h = refl

module _ (r : Run) (at b : ℕ) where
  pub headed_more : (at ≡ 15 → ⊥) → headed r at b ≡ run r.core (set r.header at b) r.pending r.kinds r.buffer
  unfolding headed
  headed_more h = rw (ne_eqb at 15 h)

  pub headed_last : at ≡ 15
      → headed r at b ≡ run (judged r.core (set r.header at b)) (set r.header at b) r.pending r.kinds r.buffer
  unfolding headed
  headed_last h = rw (eq-eqb at 15 h)

-- ---- one byte

module _ (r : Run) (b : ℕ) where
  pub step_refused : (r.core.refusal ≡ 0 → ⊥) → step_of r b ≡ next r
  unfolding step_of
  step_refused h = rw (ne_eqb _ _ h)

  pub step_head : r.core.refusal ≡ 0 → r.core.taken < 16 → step_of r b ≡ headed (next r) r.core.taken b
  unfolding step_of
  step_head h k = rw (eq-eqb _ _ h, lt-ltb r.core.taken 16 k)

  pub step_header : r.core.refusal ≡ 0 → r.core.taken < 15
      → step_of r b ≡ run (counted r.core) (set r.header r.core.taken b) r.pending r.kinds r.buffer
  step_header h k = step_head h (omega arith) ∙ headed_more (next r) r.core.taken b (λ q. omega arith)

  pub step_judge : r.core.refusal ≡ 0 → r.core.taken ≡ 15
      → step_of r b ≡ run (judged (counted r.core) (set r.header r.core.taken b)) (set r.header r.core.taken b) r.pending r.kinds r.buffer
  step_judge h k = step_head h (omega arith) ∙ headed_last (next r) r.core.taken b k

  pub step_skip : r.core.refusal ≡ 0 → 16 ≤ r.core.taken → r.core.taken < body_start r.header → step_of r b ≡ next r
  unfolding step_of
  step_skip h k s = rw (eq-eqb _ _ h, le-ltb r.core.taken 16 k, lt-ltb r.core.taken (body_start r.header) s)

  module _ (h : r.core.refusal ≡ 0) (k : 16 ≤ r.core.taken) (s : body_start r.header ≤ r.core.taken) where
    pub step_kept : (r.core.fill ≡ 0 → ⊥) → step_of r b ≡ kept (next r) b
    unfolding step_of
    step_kept f = rw (eq-eqb _ _ h, le-ltb r.core.taken 16 k, le-ltb r.core.taken (body_start r.header) s, ne_eqb _ _ f)

    pub step_begun : r.core.fill ≡ 0 → step_of r b ≡ begun (next r) r.core.taken b
    unfolding step_of
    step_begun f = rw (eq-eqb _ _ h, le-ltb r.core.taken 16 k, le-ltb r.core.taken (body_start r.header) s, eq-eqb _ _ f)

    pub step_zero : r.core.fill ≡ 0 → b ≡ 0 → step_of r b ≡ with_core r (refused (counted r.core) zero_length r.core.taken)
    step_zero f z = step_begun f ∙ begun_zero (next r) r.core.taken b z

    pub step_past : r.core.fill ≡ 0 → (b ≡ 0 → ⊥) → r.core.announced - r.core.taken < b
        → step_of r b ≡ with_core r (refused (counted r.core) past_end r.core.taken)
    step_past f z p = step_begun f ∙ begun_past (next r) r.core.taken b z p

    pub step_first : r.core.fill ≡ 0 → (b ≡ 0 → ⊥) → b ≤ r.core.announced - r.core.taken → step_of r b ≡ kept (next r) b
    step_first f z p = step_begun f ∙ begun_kept (next r) r.core.taken b z p

-- where a byte is an entry's first, and where it is kept: the header is in and passed by, and a first byte's entry does not run past the end
pub record AtFirst (r : Run) : Type 0 where
  pub late : 16 ≤ r.core.taken
  pub behind : body_start r.header ≤ r.core.taken
  pub empty : r.core.fill ≡ 0

pub record InEntry (r : Run) (b : ℕ) : Type 0 where
  pub late : 16 ≤ r.core.taken
  pub behind : body_start r.header ≤ r.core.taken
  pub fresh : r.core.fill ≡ 0 → b ≤ r.core.announced - r.core.taken

-- a claim of what a byte leaves follows from the claim in each case
module _ (P : Run → Type 0) where
  pub step_cases : (r : Run) (b : ℕ)
      → ((r.core.refusal ≡ 0 → ⊥) → P (next r))
      → (r.core.refusal ≡ 0 → r.core.taken < 15 → P (run (counted r.core) (set r.header r.core.taken b) r.pending r.kinds r.buffer))
      → (r.core.refusal ≡ 0 → r.core.taken ≡ 15
      → P (run (judged (counted r.core) (set r.header r.core.taken b)) (set r.header r.core.taken b) r.pending r.kinds r.buffer))
      → (r.core.refusal ≡ 0 → 16 ≤ r.core.taken → r.core.taken < body_start r.header → P (next r))
      → (r.core.refusal ≡ 0 → AtFirst r → P (with_core r (refused (counted r.core) zero_length r.core.taken)))
      → (r.core.refusal ≡ 0 → AtFirst r → P (with_core r (refused (counted r.core) past_end r.core.taken)))
      → (r.core.refusal ≡ 0 → InEntry r b → P (kept (next r) b))
      → P (step_of r b)
  step_cases r b off header judge skip six seven put = go₀ (eqb r.core.refusal 0) refl
    where
      n : ℕ
      n = r.core.taken

      at_first : (h : r.core.refusal ≡ 0) → (k : 16 ≤ n) (s : body_start r.header ≤ n) → r.core.fill ≡ 0 → (b ≡ 0 → ⊥) → (t : Bool) → ltb (r.core.announced - n) b ≡ t → P (step_of r b)
      at_first h k s f z true e = rw (step_past r b h k s f z (ltb-true _ _ e)) (seven h (record { late = k; behind = s; empty = f }))
      at_first h k s f z false e = rw (step_first r b h k s f z (ltb-false _ _ e)) (put h (record { late = k; behind = s; fresh = λ _. ltb-false _ _ e }))

      at_zero : (h : r.core.refusal ≡ 0) → (k : 16 ≤ n) (s : body_start r.header ≤ n) → r.core.fill ≡ 0 → (t : Bool) → eqb b 0 ≡ t → P (step_of r b)
      at_zero h k s f true e = rw (step_zero r b h k s f (eqb-true _ _ e)) (six h (record { late = k; behind = s; empty = f }))
      at_zero h k s f false e = at_first h k s f (eqb-false _ _ e) (ltb (r.core.announced - n) b) refl

      at_entry : (h : r.core.refusal ≡ 0) → (k : 16 ≤ n) (s : body_start r.header ≤ n) (t : Bool) → eqb r.core.fill 0 ≡ t → P (step_of r b)
      at_entry h k s true e = at_zero h k s (eqb-true _ _ e) (eqb b 0) refl
      at_entry h k s false e = rw (step_kept r b h k s (eqb-false _ _ e)) (put h (record { late = k; behind = s; fresh = λ z. absurd (eqb-false _ _ e z) }))

      at_body : (h : r.core.refusal ≡ 0) → (k : 16 ≤ n) (t : Bool) → ltb n (body_start r.header) ≡ t → P (step_of r b)
      at_body h k true e = rw (step_skip r b h k (ltb-true _ _ e)) (skip h k (ltb-true _ _ e))
      at_body h k false e = at_entry h k (ltb-false _ _ e) (eqb r.core.fill 0) refl

      at_15 : (h : r.core.refusal ≡ 0) → (t : Bool) → eqb n 15 ≡ t → 15 ≤ n → P (step_of r b)
      at_15 h true e k = rw (step_judge r b h (eqb-true _ _ e)) (judge h (eqb-true _ _ e))
      at_15 h false e k = let z = eqb-false n 15 e in at_body h (omega arith) (ltb n (body_start r.header)) refl

      at_head : (h : r.core.refusal ≡ 0) → (t : Bool) → ltb n 15 ≡ t → P (step_of r b)
      at_head h true e = rw (step_header r b h (ltb-true _ _ e)) (header h (ltb-true _ _ e))
      at_head h false e = at_15 h (eqb n 15) refl (ltb-false _ _ e)

      go₀ : (t : Bool) → eqb r.core.refusal 0 ≡ t → P (step_of r b)
      go₀ true e = at_head (eqb-true _ _ e) (ltb n 15) refl
      go₀ false e = rw (step_refused r b (eqb-false _ _ e)) (off (eqb-false _ _ e))

-- ---- the bounds are kept

pub get_d_set_lt : (l : List ℕ) (i b : ℕ) → get_or l 0 0 < 256 → b < 256 → get_or (set l i b) 0 0 < 256
get_d_set_lt [] i b p q = p
get_d_set_lt (x ∷ l) zero b p q = q
get_d_set_lt (x ∷ l) (suc i) b p q = p

-- after a byte: within the bounds still, and one byte further, of the same announced size, in a buffer of the same length
pub record After (r r' : Run) : Type 0 where
  pub good : Good r'
  pub further : r'.core.taken ≡ r.core.taken + 1
  pub same : r'.core.announced ≡ r.core.announced
  pub long : length r'.buffer ≡ length r.buffer

module _ (r : Run) (b : ℕ) (g : Good r) (h : r.core.taken < r.core.announced) (k : b < 256) where
  kept_after : r.core.refusal ≡ 0 → 16 ≤ r.core.taken → After r (kept (next r) b)
  kept_after z n =
      let f = r.core.fill in
      let p : List ℕ = set r.pending f b in
      let e = length-set r.pending f b in
      let q = get_d_set_lt r.pending f b g.first k in
      let v = g.live z in
      let m = v.small n in
      let t : Run = with_pending (next r) (next r).core p in
      let el : length (pending_entry t) ≡ f + 1 = length-take-le (f + 1) p (omega arith) in
      kept_cases (next r) b (After r)
      (λ m'. record { good = record { live = λ y. record { small = λ _. m; filling = omega arith; fewer = omega arith; kept = omega arith; room = omega arith }; wide = g.wide; within = omega arith; first = q; head = g.head; long = omega arith; table = g.table; lent = g.lent }; further = refl; same = refl; long = refl })
      (λ m'. ended_cases t (After r)
      (λ x y.
      let c = written_room (pending_entry t) (get_or t.kinds (number_of (pending_entry t)) 0) (pending_at t.core) x y in
      let d = length-sets r.buffer r.core.written (pending_record t x) in
      record { good = record { live = λ y'. record { small = λ _. m; filling = omega arith; fewer = omega arith; kept = omega arith; room = omega arith }; wide = g.wide; within = omega arith; first = q; head = g.head; long = omega arith; table = g.table; lent = omega (arith, g.lent) }; further = refl; same = refl; long = d })
      (λ j y. record { good = record { live = λ y'. absurd (let m₈ = refused_number (get_or t.kinds (number_of (pending_entry t)) 0) (pending_entry t) j y in omega (arith, m₈.0)); wide = g.wide; within = omega arith; first = q; head = g.head; long = omega arith; table = g.table; lent = g.lent }; further = refl; same = refl; long = refl }))

  -- of a core that is counted, and a header as long
  after_live : (c : Core) (x : List ℕ) → c.announced ≡ r.core.announced → c.taken ≡ r.core.taken + 1 → length x ≡ 16
      → (c.refusal ≡ 0 → Live c) → After r (run c x r.pending r.kinds r.buffer)
  after_live c x a t l v = record {
    good = record { live = v; wide = omega arith; within = omega arith; first = g.first; head = l; long = g.long; table = g.table; lent = g.lent };
    further = t;
    same = a;
    long = refl;
  }

  pub step_after : After r (step_of r b)
  step_after =
      let x : List ℕ = set r.header r.core.taken b in
      let e : length x ≡ 16 = length-set r.header r.core.taken b ∙ g.head in
      step_cases (After r) r b
      (λ y. after_live (counted r.core) r.header refl refl g.head (λ z. absurd (y z)))
      (λ y n. let v = g.live y in
      after_live (counted r.core) x refl refl e (λ z. record { small = λ n'. omega arith; filling = omega arith; fewer = omega arith; kept = omega arith; room = omega arith }))
      (λ y n. let v = g.live y in
      rw (judged_is (counted r.core) x)
      (after_live (refused (counted r.core) (header_number r.core.announced x) 0) x refl refl e
      (λ z. let s = header_length r.core.announced x z in
      record { small = λ n'. omega arith; filling = omega arith; fewer = omega arith; kept = omega arith; room = omega arith })))
      (λ y n w. let v = g.live y in let m = v.small n in
      after_live (counted r.core) r.header refl refl g.head (λ z. record { small = λ n'. m; filling = omega arith; fewer = omega arith; kept = omega arith; room = omega arith }))
      (λ y n. after_live (refused (counted r.core) zero_length r.core.taken) r.header refl refl g.head (λ z. absurd (omega arith)))
      (λ y n. after_live (refused (counted r.core) past_end r.core.taken) r.header refl refl g.head (λ z. absurd (omega arith)))
      (λ y n. kept_after y n.late)

-- ---- pieces

pub steps_nil : (r : Run) → steps r [] ≡ r
unfolding steps
steps_nil r = refl

pub steps_cons : (r : Run) (x : ℕ) (xs : List ℕ) → steps r (x ∷ xs) ≡ steps (step_of r x) xs
unfolding steps
steps_cons r x xs = refl

pub steps_append : (r : Run) (xs ys : List ℕ) → steps r (xs ++ ys) ≡ steps (steps r xs) ys
unfolding steps
steps_append r [] ys = refl
steps_append r (x ∷ xs) ys = steps_append (step_of r x) xs ys
