-- A state that an opening leaves, or feeds after it, is within the bounds (`left_bounds`), so that no feed and no finish of it
-- gives 18 (`never`, `finish_never`); and what such a state holds as its refusal is at most 11 (`left_refusal`).
-- Assumes nothing.
use mathlib.Core.Path.{◌≡◌, refl, sym, ap, subst, ◌∙◌}
use mathlib.Core.Bool.{Bool, true, false, cond, ◌&&◌}
use mathlib.Core.List.{List, [], ◌∷◌}
use Prim.Native.Nat.{ℕ, suc, ◌-◌, ◌%◌, ◌^◌, ◌≤◌, ◌<◌}
use native.Mathlib.Omega.{arith}
use borrow.Author.Tests.{eqb-true, eqb-false, ltb-false, le-leb}
use lib.Dec.{ltb, leb, eqb}
use lib.ListN.{length, replicate, length-replicate}
use Rattle.bits.specs.Bits.{Bytes}
use Rattle.drom.specs.Numbers.{first_of}
use Rattle.drom.specs.Header.{open_tests}
use Rattle.drom.specs.Report.{refused_report}
use Rattle.feed.specs.declared.feeding.State.{State}
use Rattle.feed.specs.Kinds.{table_of}
use Rattle.feed.specs.Run.{Run, step_of, steps}
use Rattle.feed.specs.Loop.{Good}
use Rattle.feed.specs.Bounds.{nothing_refused, opening_refused, in_bounds}
use Rattle.feed.specs.Feed.{fresh, opened_by, open_of, register_after, run_in, state_after, Answer, feed_of, told, finish_of}
use Rattle.feed.specs.Pieces.{Left}
use Rattle.feed.specs.Pieces.Left.{opened, fed}
use Rattle.feed.proofs.StepLaws.{step_after, steps_nil, steps_cons}
use Rattle.feed.proofs.BoundsLaws.{refusal_most, beside_register}
use Rattle.feed.proofs.WithinLaws.{steps_in}
use Rattle.feed.proofs.KindLaws.{table_long}
use Rattle.feed.proofs.Cutting.{feed_number, Taken, taken_is, accepted, feed_refused}

-- ---- the bounds are kept

pub steps_good : (r : Run) (xs : List ℕ) → Good r → Bytes xs → length xs ≤ r.core.announced - r.core.taken → Good (steps r xs)
steps_good r [] g b h = rw steps_nil g
steps_good r (x ∷ xs) g b h =
    let a = step_after r x g (omega (arith, g.within)) (b 0) in
    rw steps_cons (steps_good (step_of r x) xs a.good (λ i. b (suc i)) (omega (arith, a.further, a.same)))

-- a state within the bounds, whatever buffer of the least size is lent
abbrev pub Sound : State → Type 0
Sound s = (b : List ℕ) → 16368 ≤ length b → Good (run_in s b)

pub after_sound : (r : Run) (c : ℕ) → Good r → Sound (state_after r c)
after_sound r c g b h =
    record {
      live =
          λ z.
          let v = g.live z in
          record { small = v.small; filling = v.filling; fewer = v.fewer; kept = v.kept; room = v.room };
      wide = g.wide;
      within = g.within;
      first = g.first;
      head = g.head;
      long = g.long;
      table = g.table;
      lent = h;
    }

pub fresh_sound : (size refusal : ℕ) (kinds : List ℕ) → size < 2 ^ 64 → length kinds ≡ 64 → Sound (fresh size refusal kinds)
fresh_sound size refusal kinds w k b h =
    record {
      live = λ z. record { small = λ m. omega arith; filling = omega arith; fewer = omega arith; kept = omega arith; room = omega arith };
      wide = w;
      within = omega arith;
      first = omega arith;
      head = refl;
      long = refl;
      table = k;
      lent = h;
    }

open_sound : (list : List ℕ) (size room : ℕ) → size < 2 ^ 64 → Sound (open_of list size room)
unfolding open_of
open_sound list size room w b h = go (first_of (open_tests list size room))
  where
    by : (n : ℕ) (t : Bool) → Good (run_in (cond t (fresh size 0 (table_of list)) (fresh 0 n (replicate 64 0))) b)
    by n true = fresh_sound size 0 (table_of list) w (table_long list) b h
    by n false = fresh_sound 0 n (replicate 64 0) (omega arith) (length-replicate {A = ℕ} 64 0) b h

    go : (n : ℕ) → Good (run_in (opened_by n list size) b)
    go n = by n (eqb n 0)

-- a property of an answer's state: that of the state before, or that of the state after all the bytes
pub feed_cases : (P : State → Type 0) (s : State) (xs b : List ℕ) → P s
    → (Taken s xs b → P (state_after (steps (run_in s b) xs) (register_after s.core.register s.core.taken xs)))
    → P (feed_of s xs b).fed.state
feed_cases P s xs b p f = go (eqb (feed_of s xs b).fed.number 0) refl
  where
    go : (t : Bool) → eqb (feed_of s xs b).fed.number 0 ≡ t → P (feed_of s xs b).fed.state
    go true e =
        let t = accepted s xs b (eqb-true (feed_of s xs b).fed.number 0 e) in
        subst P (sym (ap (λ (a : Answer). a.fed.state) (taken_is s xs b t))) (f t)
    go false e = subst P (sym (ap (λ (a : Answer). a.fed.state) (feed_refused s xs b (eqb-false (feed_of s xs b).fed.number 0 e)))) p

pub left_sound : {s : State} → Left s → Sound s
left_sound (opened list size room w) = open_sound list size room w
left_sound (fed {s} h xs b k) =
    let g = left_sound h in
    feed_cases Sound s xs b g
    (λ t. after_sound (steps (run_in s b) xs) (register_after s.core.register s.core.taken xs) (steps_good (run_in s b) xs (g b t.room) k t.within))

-- ---- a state left passes the test of the bounds

-- an opening that is not refused, of whatever list
pub fresh_in : (size : ℕ) (kinds : List ℕ) → 16 ≤ size
    → in_bounds (fresh size 0 kinds).core (fresh size 0 kinds).header (fresh size 0 kinds).pending ≡ true
unfolding in_bounds nothing_refused
fresh_in size kinds h = rw (le-leb 0 size (omega arith), le-leb 16 size h)

-- any opening, by its tests
tested_in : (list : List ℕ) (size : ℕ) (o s f : Bool) → ltb size 16 ≡ f
    → (let opened : State = opened_by (first_of ((o, 5) ∷ (s, 4) ∷ (f, 1) ∷ [])) list size in in_bounds opened.core opened.header opened.pending ≡ true)
unfolding in_bounds opening_refused
tested_in list size true s f e = refl
tested_in list size false true f e = refl
tested_in list size false false true e = refl
tested_in list size false false false e = fresh_in size (table_of list) (ltb-false size 16 e)

pub open_in : (list : List ℕ) (size room : ℕ) → in_bounds (open_of list size room).core (open_of list size room).header (open_of list size room).pending ≡ true
unfolding open_of
open_in list size room = tested_in list size (eqb (length list % 2) 1) (ltb room 16368) (ltb size 16) refl

pub left_bounds : {s : State} → Left s → in_bounds s.core s.header s.pending ≡ true
left_bounds (opened list size room w) = open_in list size room
left_bounds (fed {s} h xs b k) =
    let e = left_bounds h in
    feed_cases (λ (x : State). in_bounds x.core x.header x.pending ≡ true) s xs b e
    (λ t. beside_register (steps (run_in s b) xs) (register_after s.core.register s.core.taken xs) _ _ ∙ steps_in (run_in s b) xs e t.within)

-- the answer is 4, 12 or 0: never 18
pub never : {s : State} → Left s → (xs b : List ℕ) → (feed_of s xs b).fed.number ≡ 18 → ⊥
never {s} h xs b x = go (ltb (length b) 16368) (ltb (s.core.announced - s.core.taken) (length xs)) (rw (left_bounds h) at (sym (feed_number s xs b) ∙ x))
  where
    go : (u v : Bool) → first_of ((false, 18) ∷ (u, 4) ∷ (v, 12) ∷ []) ≡ 18 → ⊥
    go true v e = omega arith
    go false true e = omega arith
    go false false e = omega arith

-- ---- nor does a finish

-- a refusal held is one of 1 to 11
pub left_refusal : {s : State} → Left s → s.core.refusal ≤ 11
left_refusal {s} h = refusal_most s.core s.header s.pending (left_bounds h)

pub finish_never : {s : State} → Left s → (finish_of s).number ≡ 18 → ⊥
unfolding finish_of
finish_never {s} h x =
    go (ltb s.core.taken s.core.announced) (leb 1 s.core.refusal && leb s.core.refusal 5) (rw (left_bounds h) at x)
  where
    go : (t u : Bool) → (cond t (refused_report 13) (cond u (refused_report s.core.refusal) (told s.core s.header))).number ≡ 18 → ⊥
    go true u e = omega arith
    go false true e = omega (arith, left_refusal h)
    go false false e = omega (arith, left_refusal h)
