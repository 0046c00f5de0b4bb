-- What a finish says of any state, also of one that a caller made up or forgot to open: no number but those that document 01 lists for it
-- (`finish_numbers`); "For 1 to 5, 13 and 18 all but the number is zero or no" (`finish_bare`); 0 only where all that was announced is in,
-- with a header that passes and nothing pending (`finish_accepts`). A state of zeros is told 18 (`unopened`).
-- Assumes nothing.
use Prim.Native.Nat.{ℕ, ◌-◌, ◌≤◌, ◌<◌}
use mathlib.Core.Path.{◌≡◌, refl, sym, ap, ◌∙◌}
use mathlib.Core.List.{List, [], ◌∷◌}
use mathlib.Core.Logic.{◌⊎◌, inl, inr}
use mathlib.Core.Bool.{Bool, true, false, false≢true}
use native.Mathlib.Omega.{arith}
use lib.Dec.{ltb, leb, eqb}
use lib.ListN.{replicate}
use borrow.Author.Tests.{ltb-true, ltb-false, leb-true, leb-false, eqb-true, eqb-false, ne_eqb}
use Rattle.bits.specs.Bits.{byte}
use Rattle.drom.specs.declared.reader.Report.{Report}
use Rattle.drom.specs.Header.{body_start, header_number}
use Rattle.drom.specs.Report.{refused_report}
use Rattle.feed.specs.declared.feeding.State.{State}
use Rattle.feed.specs.Bounds.{among, nothing_refused, in_bounds}
use Rattle.feed.specs.Feed.{state_of, feed_of, told, finish_of, answer}
use Rattle.feed.proofs.BoundsLaws.{Fit, Going, Within, within_of, bounds_within, refusal_most, opening_some}
use Rattle.feed.proofs.BoundsLaws.Within.{going, opening, header, entry}
use Rattle.feed.proofs.FinishLaws.{finish_outside, finish_missing, finish_refused, finish_told}

-- a state that was declared, of zeros, and never opened
abbrev pub zeros : State
zeros =
    state_of (record { announced = 0; taken = 0; refusal = 0; offset = 0; register = 0; fill = 0; count = 0; written = 0 })
    (replicate 16 0) (replicate 255 0) (replicate 64 0)

-- where a finish says that a DROM is accepted: all that was announced is in, 16 bytes at least; the header passes for so many bytes; nothing is
-- pending; and so many records of so many bytes can stand for the body
pub record Accepted (s : State) : Type 0 where
  pub all : s.core.taken ≡ s.core.announced
  pub size : 16 ≤ s.core.announced
  pub passes : header_number s.core.announced s.header ≡ 0
  pub nothing_pending : s.core.fill ≡ 0
  pub fit : Fit (s.core.announced - body_start s.header) s.core.count s.core.written

-- ---- a number and nothing else, or all that the state tells

record Tells (s : State) : Type 0 where
  inside : in_bounds s.core s.header s.pending ≡ true
  all : s.core.taken ≡ s.core.announced
  number : (s.core.refusal ≡ 0) ⊎ (6 ≤ s.core.refusal)
  same : finish_of s ≡ told s.core s.header

data Finished (s : State) : Type 0 where
  bare : (n : ℕ) → ((1 ≤ n) × (n ≤ 5)) ⊎ ((n ≡ 13) ⊎ (n ≡ 18)) → finish_of s ≡ refused_report n → Finished s
  whole : Tells s → Finished s

module _ (s : State) where
  finished_in : in_bounds s.core s.header s.pending ≡ true → s.core.announced ≤ s.core.taken → Finished s
  finished_in b h = go (eqb s.core.refusal 0) (leb s.core.refusal 5) refl refl
    where
      all : s.core.taken ≡ s.core.announced
      all = omega (arith, bounds_within s.core s.header s.pending b)

      go : (t u : Bool) → eqb s.core.refusal 0 ≡ t → leb s.core.refusal 5 ≡ u → Finished s
      go true u e f = let z = inl (eqb-true _ _ e) in whole (record { inside = b; all = all; number = z; same = finish_told s b h z })
      go false true e f =
          let n = eqb-false s.core.refusal 0 e in
          let l : 1 ≤ s.core.refusal = omega arith in
          let m = leb-true s.core.refusal 5 f in
          bare s.core.refusal (inl (l, m)) (finish_refused s b h l m)
      go false false e f = let z = inr (leb-false _ _ f) in whole (record { inside = b; all = all; number = z; same = finish_told s b h z })

  finished : Finished s
  finished = go (in_bounds s.core s.header s.pending) (ltb s.core.taken s.core.announced) refl refl
    where
      go : (t u : Bool) → in_bounds s.core s.header s.pending ≡ t → ltb s.core.taken s.core.announced ≡ u → Finished s
      go false u b f = bare 18 (inr (inr refl)) (finish_outside s b)
      go true true b f = bare 13 (inr (inl refl)) (finish_missing s b (ltb-true _ _ f))
      go true false b f = finished_in b (ltb-false _ _ f)

  told_number : Tells s → (finish_of s).number ≡ s.core.refusal
  told_number t = ap (λ (r : Report). r.number) t.same

  -- ---- the theorems

  pub finish_numbers : ((finish_of s).number ≤ 11) ⊎ (((finish_of s).number ≡ 13) ⊎ ((finish_of s).number ≡ 18))
  finish_numbers = go finished
    where
      go : Finished s → ((finish_of s).number ≤ 11) ⊎ (((finish_of s).number ≡ 13) ⊎ ((finish_of s).number ≡ 18))
      go (bare n (inl l) e) = inl (omega (arith, ap (λ (r : Report). r.number) e, l.1))
      go (bare n (inr (inl z)) e) = inr (inl (ap (λ (r : Report). r.number) e ∙ z))
      go (bare n (inr (inr z)) e) = inr (inr (ap (λ (r : Report). r.number) e ∙ z))
      go (whole t) = inl (omega (arith, told_number t, refusal_most s.core s.header s.pending t.inside))

  pub finish_bare : among (finish_of s).number (1 ∷ 2 ∷ 3 ∷ 4 ∷ 5 ∷ 13 ∷ 18 ∷ []) ≡ true → finish_of s ≡ refused_report (finish_of s).number
  finish_bare h = go finished
    where
      other : (n : ℕ) → (n ≡ 0) ⊎ (6 ≤ n) → n ≤ 11 → among n (1 ∷ 2 ∷ 3 ∷ 4 ∷ 5 ∷ 13 ∷ 18 ∷ []) ≡ false
      other n (inl z) l = rw z
      other n (inr z) l =
          rw (ne_eqb n 1 (λ q. omega arith), ne_eqb n 2 (λ q. omega arith), ne_eqb n 3 (λ q. omega arith), ne_eqb n 4 (λ q. omega arith), ne_eqb n 5 (λ q. omega arith), ne_eqb n 13 (λ q. omega arith), ne_eqb n 18 (λ q. omega arith))

      go : Finished s → finish_of s ≡ refused_report (finish_of s).number
      go (bare n l e) = e ∙ ap refused_report (sym (ap (λ (r : Report). r.number) e))
      go (whole t) =
          let m = other s.core.refusal t.number (refusal_most s.core s.header s.pending t.inside) in
          absurd (false≢true (sym (ap (λ (n : ℕ). among n (1 ∷ 2 ∷ 3 ∷ 4 ∷ 5 ∷ 13 ∷ 18 ∷ [])) (told_number t) ∙ m) ∙ h))

  pub finish_accepts : (finish_of s).number ≡ 0 → Accepted s
  finish_accepts z = go finished
    where
      -- an entry that is pending ends at the end at the latest, and has not all come
      none_pending : s.core.taken ≡ s.core.announced → Going s.core s.header s.pending → s.core.fill ≡ 0
      none_pending a g = by g.cut
        where
          by : (s.core.fill ≡ 0) ⊎ ((s.core.fill < byte 0 s.pending) × (byte 0 s.pending ≤ s.core.announced - (s.core.taken - s.core.fill))) → s.core.fill ≡ 0
          by (inl e) = e
          by (inr x) = absurd (omega (arith, x.0, x.1, g.kept))

      accepted : Tells s → Within s.core s.header s.pending → Accepted s
      accepted t (going g) =
          let e = none_pending t.all g in
          let f = g.fit in
          record {
            all = t.all;
            size = g.size;
            passes = g.passes (omega (arith, g.size, t.all));
            nothing_pending = e;
            fit = record { fewer = omega (arith, f.fewer, e, t.all); least = f.least; most = omega (arith, f.most, e, t.all) };
          }
      accepted t (opening o) = absurd (opening_some s.core.refusal o.number (sym (told_number t) ∙ z))
      accepted t (header a) = absurd (a.some (sym (told_number t) ∙ z))
      accepted t (entry a) = absurd (omega (arith, a.least, told_number t))

      go : Finished s → Accepted s
      go (bare n (inl l) e) = absurd (omega (arith, ap (λ (r : Report). r.number) e, l.0))
      go (bare n (inr (inl q)) e) = absurd (omega (arith, ap (λ (r : Report). r.number) e))
      go (bare n (inr (inr q)) e) = absurd (omega (arith, ap (λ (r : Report). r.number) e))
      go (whole t) = accepted t (within_of s.core s.header s.pending t.inside)

-- a state that nobody opened is no accepted dock, and takes no byte
pub unopened : finish_of zeros ≡ refused_report 18
unfolding finish_of in_bounds nothing_refused
unopened = refl

pub unopened_fed : (piece buffer : List ℕ) → feed_of zeros piece buffer ≡ answer 18 zeros buffer
unfolding feed_of in_bounds nothing_refused
unopened_fed piece buffer = refl
