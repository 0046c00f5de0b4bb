-- A byte keeps a state within its bounds (`step_within`), and so do bytes one after the other (`steps_in`); and a state that passes the test
-- of the bounds is safe to feed (`good_of`).
-- Assumes nothing.
use Prim.Native.Nat.{ℕ, ◌+◌, ◌-◌, ◌^◌, ◌≤◌, ◌<◌}
use mathlib.Core.Path.{◌≡◌, refl, sym, ap}
use mathlib.Core.List.{List, [], ◌∷◌}
use mathlib.Core.Logic.{◌⊎◌, inl, inr}
use mathlib.Core.Bool.{Bool, true, false}
use native.Mathlib.Omega.{arith}
use lib.Dec.{eqb}
use lib.ListN.{length, get_or, set, length-take}
use lib.Seq.{get_or-set_other}
use borrow.Author.Tests.{eqb-true, eqb-false}
use Rattle.bits.specs.Bits.{byte}
use Rattle.entry.specs.Decode.{number_of}
use Rattle.entry.proofs.FitLaws.{refused_number}
use Rattle.record.proofs.WriteLaws.{written_room, written_least}
use Rattle.drom.specs.Header.{body_start, header_number}
use Rattle.feed.specs.declared.feeding.Core.{Core}
use Rattle.feed.specs.Run.{Run, with_pending, counted, refused, pending_entry, pending_at, kept, step_of, steps}
use Rattle.feed.specs.Bounds.{in_bounds}
use Rattle.feed.specs.Loop.{Live, Good}
use Rattle.feed.proofs.BoundsLaws.{start_least, header_small, Going, Unread, AtEntry, Within, bounds_within, within_of, in_within, opening_some}
use Rattle.feed.proofs.BoundsLaws.Within.{going, opening, header, entry}
use Rattle.feed.proofs.StepLaws.{next, more, judged_is, ended_cases, kept_cases, AtFirst, InEntry, step_cases, step_refused, steps_nil, steps_cons}
use Rattle.feed.proofs.MoveLaws.{step_moves, steps_move}

abbrev Bounded : Run → Type 0
Bounded r = Within r.core r.header r.pending

-- ---- before the entries nothing is pending or recorded

early : (r : Run) → Going r.core r.header r.pending → r.core.taken ≤ body_start r.header → Unread r.core
early r g n =
    let f = g.fit in
    record { offset = g.unset; fill = omega (arith, g.kept); count = omega (arith, f.fewer); written = omega (arith, f.most) }

-- of numbers that say so
unread_going : (c : Core) (h p : List ℕ) → c.refusal ≡ 0 → 16 ≤ c.announced → (16 ≤ c.taken → header_number c.announced h ≡ 0) → Unread c → Going c h p
unread_going c h p z s f u =
    record {
      none = z;
      size = s;
      passes = f;
      unset = u.offset;
      kept = omega (arith, u.fill);
      cut = inl u.fill;
      fit = record { fewer = omega (arith, u.count); least = omega (arith, u.count); most = omega (arith, u.written) };
    }

-- ---- one byte

-- the length that the first pending byte says: of a first byte at most that byte, later the same
first_new : (p : List ℕ) (b : ℕ) → get_or (set p 0 b) 0 0 ≤ b
first_new [] b = omega arith
first_new (x ∷ p) b = omega arith

module _ (r : Run) (b : ℕ) (g : Going r.core r.header r.pending) (w : r.core.taken < r.core.announced) where
  -- the entry of a byte that is kept ends within the announced bytes
  ends : InEntry r b → get_or (more r b) 0 0 ≤ r.core.announced - (r.core.taken - r.core.fill)
  ends i = go (eqb r.core.fill 0) refl g.cut
    where
      go : (t : Bool) → eqb r.core.fill 0 ≡ t
          → (r.core.fill ≡ 0) ⊎ ((r.core.fill < byte 0 r.pending) × (byte 0 r.pending ≤ r.core.announced - (r.core.taken - r.core.fill)))
          → get_or (more r b) 0 0 ≤ r.core.announced - (r.core.taken - r.core.fill)
      go true e x =
          let z = eqb-true _ _ e in
          let m : get_or (more r b) 0 0 ≡ get_or (set r.pending 0 b) 0 0 = ap (λ (k : ℕ). get_or (set r.pending k b) 0 0) z in
          omega (arith, m, first_new r.pending b, i.fresh z)
      go false e (inl z) = absurd (eqb-false _ _ e z)
      go false e (inr x) =
          let n = eqb-false _ _ e in
          omega (arith, get_or-set_other r.pending r.core.fill 0 b 0 (λ z. n (sym z)), x.1)

  kept_within : InEntry r b → Bounded (kept (next r) b)
  kept_within i =
      let f = r.core.fill in
      let t : Run = with_pending (next r) (next r).core (more r b) in
      let k = get_or t.kinds (number_of (pending_entry t)) 0 in
      let l : length (pending_entry t) ≤ f + 1 = omega (arith, length-take (f + 1) (more r b)) in
      let v = g.fit in
      kept_cases (next r) b Bounded
      (λ m. going (record {
        none = g.none;
        size = g.size;
        passes = λ _. g.passes i.late;
        unset = g.unset;
        kept = omega (arith, g.kept, i.behind);
        cut = inr (m, omega (arith, ends i, g.kept));
        fit = record { fewer = omega (arith, v.fewer); least = v.least; most = omega (arith, v.most) };
      }))
      (λ m. ended_cases t Bounded
      (λ e q.
      let most = written_room (pending_entry t) k (pending_at t.core) e q in
      let least = written_least (pending_entry t) k (pending_at t.core) e q in
      going (record {
        none = g.none;
        size = g.size;
        passes = λ _. g.passes i.late;
        unset = g.unset;
        kept = omega arith;
        cut = inl refl;
        fit = record { fewer = omega (arith, v.fewer, g.kept, i.behind); least = omega (arith, v.least, least); most = omega (arith, v.most, most, l, g.kept, i.behind) };
      }))
      (λ n q.
      let j = refused_number k (pending_entry t) n q in
      entry (record {
        least = omega (arith, j.0);
        most = j.1;
        passes = g.passes i.late;
        behind = omega (arith, g.kept, i.behind);
        come = omega (arith, g.kept, i.behind);
        fit = record { fewer = omega (arith, v.fewer, g.kept, i.behind); least = v.least; most = omega (arith, v.most, g.kept, i.behind) };
      })))

  -- an entry refused at its first byte
  first_refused : (n : ℕ) → 6 ≤ n → n ≤ 11 → AtFirst r → AtEntry (refused (counted r.core) n r.core.taken) r.header
  first_refused n x y a =
      let v = g.fit in
      record {
        least = x;
        most = y;
        passes = g.passes a.late;
        behind = a.behind;
        come = omega (arith, a.empty);
        fit = record { fewer = omega (arith, v.fewer, a.empty); least = v.least; most = omega (arith, v.most, a.empty) };
      }

  going_within : Bounded (step_of r b)
  going_within =
      let h : List ℕ = set r.header r.core.taken b in
      step_cases Bounded r b
      (λ y. absurd (y g.none))
      (λ y n.
      let u = early r g (omega (arith, start_least r.header)) in
      going (unread_going (counted r.core) h r.pending y g.size (λ m. absurd (omega arith)) (record { offset = u.offset; fill = u.fill; count = u.count; written = u.written })))
      (λ y n. rw (judged_is (counted r.core) h) (judge h n (eqb (header_number r.core.announced h) 0) refl))
      (λ y n s.
      let u = early r g (omega arith) in
      going (unread_going (counted r.core) r.header r.pending y g.size (λ _. g.passes n) (record { offset = u.offset; fill = u.fill; count = u.count; written = u.written })))
      (λ y a. entry (first_refused 6 (omega arith) (omega arith) a))
      (λ y a. entry (first_refused 7 (omega arith) (omega arith) a))
      (λ y i. kept_within i)
    where
      judge : (h : List ℕ) → r.core.taken ≡ 15 → (t : Bool) → eqb (header_number r.core.announced h) 0 ≡ t
          → Within (refused (counted r.core) (header_number r.core.announced h) 0) h r.pending
      judge h n true e =
          let z = eqb-true _ _ e in
          let u = early r g (omega (arith, start_least r.header)) in
          going (unread_going (refused (counted r.core) (header_number r.core.announced h) 0) h r.pending z g.size (λ _. z) (record { offset = refl; fill = u.fill; count = u.count; written = u.written }))
      judge h n false e =
          let u = early r g (omega (arith, start_least r.header)) in
          header (record { late = omega arith; number = refl; some = eqb-false _ _ e; unread = record { offset = refl; fill = u.fill; count = u.count; written = u.written } })

step_within : (r : Run) (b : ℕ) → Bounded r → r.core.taken < r.core.announced → Bounded (step_of r b)
step_within r b (going g) w = going_within r b g w
step_within r b (opening o) w = absurd (omega (arith, o.announced))
step_within r b (header a) w =
    rw (step_refused r b a.some)
    (header (record { late = omega (arith, a.late); number = a.number; some = a.some; unread = record { offset = a.unread.offset; fill = a.unread.fill; count = a.unread.count; written = a.unread.written } }))
step_within r b (entry a) w =
    rw (step_refused r b (λ z. omega (arith, a.least)))
    (entry (record { least = a.least; most = a.most; passes = a.passes; behind = a.behind; come = omega (arith, a.come); fit = a.fit }))

steps_within : (r : Run) (xs : List ℕ) → Bounded r → length xs ≤ r.core.announced - r.core.taken → Bounded (steps r xs)
steps_within r [] k h = rw steps_nil k
steps_within r (x ∷ xs) k h =
    let m = step_moves r x in
    rw steps_cons (steps_within (step_of r x) xs (step_within r x k (omega arith)) (omega (arith, m.0, m.1)))

-- what passes the test passes it after further bytes
pub steps_in : (r : Run) (xs : List ℕ) → in_bounds r.core r.header r.pending ≡ true → length xs ≤ r.core.announced - r.core.taken
    → in_bounds (steps r xs).core (steps r xs).header (steps r xs).pending ≡ true
steps_in r xs e h =
    let w = bounds_within r.core r.header r.pending e in
    let m = steps_move r xs in
    in_within (steps r xs).core (steps r xs).header (steps r xs).pending (omega (arith, m.0, m.1))
    (steps_within r xs (within_of r.core r.header r.pending e) h)

-- ---- what the loop needs of a state that passes the test

going_live : (c : Core) (h p : List ℕ) → byte 0 p < 256 → Going c h p → Live c
going_live c h p k g =
    let v = g.fit in
    let s = start_least h in
    record {
      small = λ n. header_small c.announced h (g.passes n);
      filling = filling g.cut;
      fewer = omega (arith, v.fewer);
      kept = omega (arith, g.kept);
      room = omega (arith, v.most);
    }
  where
    filling : (c.fill ≡ 0) ⊎ ((c.fill < byte 0 p) × (byte 0 p ≤ c.announced - (c.taken - c.fill))) → c.fill ≤ 254
    filling (inl z) = omega arith
    filling (inr x) = omega (arith, x.0)

within_live : (c : Core) (h p : List ℕ) → byte 0 p < 256 → Within c h p → c.refusal ≡ 0 → Live c
within_live c h p k (going g) z = going_live c h p k g
within_live c h p k (opening o) z = absurd (opening_some c.refusal o.number z)
within_live c h p k (header a) z = absurd (a.some z)
within_live c h p k (entry a) z = absurd (omega (arith, a.least))

pub good_of : (r : Run) → in_bounds r.core r.header r.pending ≡ true → r.core.announced < 2 ^ 64 → get_or r.pending 0 0 < 256 → length r.header ≡ 16
    → length r.pending ≡ 255 → length r.kinds ≡ 64 → 16368 ≤ length r.buffer → Good r
good_of r e w f h l k b =
    record {
      live = within_live r.core r.header r.pending f (within_of r.core r.header r.pending e);
      wide = w;
      within = bounds_within r.core r.header r.pending e;
      first = f;
      head = h;
      long = l;
      table = k;
      lent = b;
    }
