-- Cutting: two feeds that are taken are one of the joined bytes, for any state (`cut`). A feed that is not taken leaves state and
-- buffer as they were (`feed_refused`).
-- Assumes nothing.
use mathlib.Core.Path.{◌≡◌, refl, sym, ap, subst, ◌∙◌}
use mathlib.Core.Bool.{Bool, true, false, not}
use mathlib.Core.List.{List, [], ◌∷◌, ◌++◌}
use Prim.Native.Nat.{ℕ, ◌+◌, ◌-◌, ◌≤◌}
use native.Mathlib.Omega.{arith}
use borrow.Author.Tests.{eqb-true, ltb-false, ne_eqb}
use lib.Dec.{ltb, eqb}
use lib.ListN.{length, length-append}
use Rattle.drom.specs.Numbers.{first_of}
use Rattle.feed.specs.declared.feeding.State.{State}
use Rattle.feed.specs.Run.{Run, steps}
use Rattle.feed.specs.Bounds.{in_bounds}
use Rattle.feed.specs.Feed.{register_after, run_in, state_after, Answer, answer, feed_tests, feed_by, feed_of}
use Rattle.feed.proofs.BoundsLaws.{beside_register}
use Rattle.feed.proofs.StepLaws.{steps_append}
use Rattle.feed.proofs.FeedLaws.{feed_taken}
use Rattle.feed.proofs.RegisterLaws.{register_append}
use Rattle.feed.proofs.MoveLaws.{with_register, steps_beside, steps_move}

-- ---- the answers of a feed

by_number : (n : ℕ) (s : State) (xs b : List ℕ) → (feed_by n s xs b).fed.number ≡ n
by_number n s xs b = go (eqb n 0) refl
  where
    go : (t : Bool) → eqb n 0 ≡ t → (feed_by n s xs b).fed.number ≡ n
    go true e = rw e (sym (eqb-true n 0 e))
    go false e = rw e

by_refused : (n : ℕ) (s : State) (xs b : List ℕ) → (n ≡ 0 → ⊥) → feed_by n s xs b ≡ answer n s b
by_refused n s xs b h = rw (ne_eqb n 0 h)

module _ (s : State) (xs b : List ℕ) where
  -- the number is that of the first test
  pub feed_number : (feed_of s xs b).fed.number ≡ first_of (feed_tests s xs (length b))
  unfolding feed_of
  feed_number = by_number (first_of (feed_tests s xs (length b))) s xs b

  -- what an accepted feed says
  pub record Taken : Type 0 where
    pub bounds : in_bounds s.core s.header s.pending ≡ true
    pub room : 16368 ≤ length b
    pub within : length xs ≤ s.core.announced - s.core.taken

  pub taken_is : Taken
      → feed_of s xs b ≡ answer 0 (state_after (steps (run_in s b) xs) (register_after s.core.register s.core.taken xs)) (steps (run_in s b) xs).buffer
  taken_is t = feed_taken s xs b t.bounds t.room t.within

  tests_passed : first_of (feed_tests s xs (length b)) ≡ 0 → Taken
  tests_passed = go (in_bounds s.core s.header s.pending) (ltb (length b) 16368) (ltb (s.core.announced - s.core.taken) (length xs)) refl refl refl
    where
      go : (t u v : Bool) → in_bounds s.core s.header s.pending ≡ t → ltb (length b) 16368 ≡ u → ltb (s.core.announced - s.core.taken) (length xs) ≡ v
          → first_of ((not t, 18) ∷ (u, 4) ∷ (v, 12) ∷ []) ≡ 0 → Taken
      go false u v e f g h = absurd (omega arith)
      go true true v e f g h = absurd (omega arith)
      go true false true e f g h = absurd (omega arith)
      go true false false e f g h =
          record { bounds = e; room = ltb-false (length b) 16368 f; within = ltb-false (s.core.announced - s.core.taken) (length xs) g }

  pub accepted : (feed_of s xs b).fed.number ≡ 0 → Taken
  accepted h = tests_passed (sym feed_number ∙ h)

  -- "each refusal leaves everything as it was"
  refused_is : (first_of (feed_tests s xs (length b)) ≡ 0 → ⊥) → feed_of s xs b ≡ answer (first_of (feed_tests s xs (length b))) s b
  unfolding feed_of
  refused_is h = by_refused (first_of (feed_tests s xs (length b))) s xs b h

  pub feed_refused : ((feed_of s xs b).fed.number ≡ 0 → ⊥) → feed_of s xs b ≡ answer (feed_of s xs b).fed.number s b
  feed_refused h = refused_is (λ z. h (feed_number ∙ z)) ∙ ap (λ (n : ℕ). answer n s b) (sym feed_number)

-- ---- two feeds

pub take_both : (s : State) (xs ys b : List ℕ) → Taken s xs b → length xs + length ys ≤ s.core.announced - s.core.taken
    → in_bounds (steps (run_in s b) xs).core (steps (run_in s b) xs).header (steps (run_in s b) xs).pending ≡ true
    → feed_of (feed_of s xs b).fed.state ys (feed_of s xs b).buffer ≡ feed_of s (xs ++ ys) b
take_both s xs ys b t w e =
    let r : Run = run_in s b in
    let r' : Run = steps r xs in
    let c : ℕ = register_after s.core.register s.core.taken xs in
    let s' : State = state_after r' c in
    let m = steps_move r xs in
    let u : Taken s' ys r'.buffer = record { bounds = beside_register r' c r'.header r'.pending ∙ e; room = omega (arith, m.2, t.room); within = omega (arith, m.0, m.1) } in
    let v : Taken s (xs ++ ys) b = record { bounds = t.bounds; room = t.room; within = omega (arith, length-append xs ys) } in
    let on : steps (run_in s' r'.buffer) ys ≡ with_register (steps r (xs ++ ys)) c =
    steps_beside r' c ys ∙ ap (λ (x : Run). with_register x c) (sym (steps_append r xs ys))
    in
    let register : register_after c r'.core.taken ys ≡ register_after s.core.register s.core.taken (xs ++ ys) =
    ap (λ (k : ℕ). register_after c k ys) m.0 ∙ register_append s.core.register s.core.taken xs ys
    in
    ap (λ (a : Answer). feed_of a.fed.state ys a.buffer) (taken_is s xs b t)
    ∙ taken_is s' ys r'.buffer u
    ∙ ap (λ (x : Run). answer 0 (state_after x (register_after c r'.core.taken ys)) x.buffer) on
    ∙ ap (λ (k : ℕ). answer 0 (state_after (steps r (xs ++ ys)) k) (steps r (xs ++ ys)).buffer) register
    ∙ sym (taken_is s (xs ++ ys) b v)

-- two accepted feeds are one of the joined bytes, for any state
pub cut : (s : State) (xs ys b : List ℕ) → (feed_of s xs b).fed.number ≡ 0
    → (feed_of (feed_of s xs b).fed.state ys (feed_of s xs b).buffer).fed.number ≡ 0
    → feed_of (feed_of s xs b).fed.state ys (feed_of s xs b).buffer ≡ feed_of s (xs ++ ys) b
cut s xs ys b h g =
    let t = accepted s xs b h in
    let r : Run = run_in s b in
    let q = taken_is s xs b t in
    let m = steps_move r xs in
    let u = accepted (state_after (steps r xs) (register_after s.core.register s.core.taken xs)) ys (steps r xs).buffer
    (subst (λ (a : Answer). (feed_of a.fed.state ys a.buffer).fed.number ≡ 0) q g)
    in
    take_both s xs ys b t (omega (arith, u.within, t.within, m.0, m.1)) (sym (beside_register (steps r xs) (register_after s.core.register s.core.taken xs) _ _) ∙ u.bounds)
