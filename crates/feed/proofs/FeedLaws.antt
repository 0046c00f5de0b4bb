-- What holds in the loop over a piece, the four answers of a feed, and that none of them changes the kinds (`feed_kinds`).
-- Assumes nothing.
use Prim.Native.Nat.{ℕ, ◌+◌, ◌-◌, ◌≤◌, ◌<◌}
use mathlib.Core.Path.{◌≡◌, refl, sym, subst, ◌∙◌}
use mathlib.Core.List.{List}
use mathlib.Core.Bool.{Bool, true, false, cond}
use native.Mathlib.Omega.{arith}
use native.Mathlib.Numerals.{add-one}
use lib.ListN.{length, get_or, drop}
use lib.Seq.{drop-cons, drop-length}
use lib.Dec.{eqb}
use borrow.Author.Tests.{lt-ltb, le-ltb}
use Rattle.drom.specs.Numbers.{first_of}
use Rattle.feed.specs.declared.feeding.State.{State}
use Rattle.feed.specs.Run.{Run, step_of, steps}
use Rattle.feed.specs.Loop.{Good}
use Rattle.feed.specs.Bounds.{in_bounds}
use Rattle.feed.specs.Feed.{Answer, run_in, state_after, register_after, answer, feed_tests, feed_of}
use Rattle.feed.proofs.MoveLaws.{steps_move}
use Rattle.feed.proofs.StepLaws.{step_after}

-- ---- the loop over a piece

-- one turn
pub steps_turn : (r : Run) (xs : List ℕ) (i : ℕ) → i < length xs → steps r (drop i xs) ≡ steps (step_of r (get_or xs i 0)) (drop (i + 1) xs)
unfolding steps
steps_turn r xs i h = rw (add-one, drop-cons xs i 0)

-- after the last
pub steps_done : (r : Run) (xs : List ℕ) (i : ℕ) → i ≡ length xs → steps r (drop i xs) ≡ r
unfolding steps
steps_done r xs i h = rw (h, drop-length)

-- what holds at the head of the loop: from here the rest of the piece leads where the whole led from the start
pub record Held (r₀ : Run) (xs : List ℕ) (r : Run) (i : ℕ) : Type 0 where
  pub same : steps r (drop i xs) ≡ steps r₀ xs
  pub good : Good r
  pub up : i ≤ length xs
  pub left : length xs ≤ i + (r.core.announced - r.core.taken)
  pub long : length r.buffer ≡ length r₀.buffer

pub held_start : (r : Run) (xs : List ℕ) → Good r → length xs ≤ r.core.announced - r.core.taken → Held r xs r 0
held_start r xs g h = record { same = refl; good = g; up = omega arith; left = omega arith; long = refl }

pub held_turn : (r₀ : Run) (xs : List ℕ) (r : Run) (i : ℕ) → Held r₀ xs r i → i < length xs → get_or xs i 0 < 256 → Held r₀ xs (step_of r (get_or xs i 0)) (i + 1)
held_turn r₀ xs r i h t k =
    let a = step_after r (get_or xs i 0) h.good (omega arith) k in
    record { same = sym (steps_turn r xs i t) ∙ h.same; good = a.good; up = omega arith; left = omega arith; long = a.long ∙ h.long }

-- a turn whose byte is known to lead to r'
pub turn_to : (r₀ : Run) (xs : List ℕ) (r : Run) (i : ℕ) (r' : Run) → Held r₀ xs r i → i < length xs → get_or xs i 0 < 256 → step_of r (get_or xs i 0) ≡ r'
    → Held r₀ xs r' (i + 1)
turn_to r₀ xs r i r' h t k e = subst (λ (x : Run). Held r₀ xs x (i + 1)) e (held_turn r₀ xs r i h t k)

pub held_end : (r₀ : Run) (xs : List ℕ) (r : Run) (i : ℕ) → Held r₀ xs r i → length xs ≤ i → r ≡ steps r₀ xs
held_end r₀ xs r i h t = sym (steps_done r xs i (omega arith)) ∙ h.same

-- ---- the four answers of a feed

module _ (s : State) (xs b : List ℕ) where
  pub feed_out : in_bounds s.core s.header s.pending ≡ false → feed_of s xs b ≡ answer 18 s b
  unfolding feed_of
  feed_out e = rw e

  pub feed_small : in_bounds s.core s.header s.pending ≡ true → length b < 16368 → feed_of s xs b ≡ answer 4 s b
  unfolding feed_of
  feed_small e h = rw (e, lt-ltb _ _ h)

  pub feed_beyond : in_bounds s.core s.header s.pending ≡ true → 16368 ≤ length b → s.core.announced - s.core.taken < length xs → feed_of s xs b ≡ answer 12 s b
  unfolding feed_of
  feed_beyond e h l = rw (e, le-ltb _ _ h, lt-ltb _ _ l)

  pub feed_taken : in_bounds s.core s.header s.pending ≡ true → 16368 ≤ length b → length xs ≤ s.core.announced - s.core.taken
      → feed_of s xs b ≡ answer 0 (state_after (steps (run_in s b) xs) (register_after s.core.register s.core.taken xs)) (steps (run_in s b) xs).buffer
  unfolding feed_of
  feed_taken e h l = rw (e, le-ltb _ _ h, le-ltb _ _ l)

  -- ---- the kinds stay

  abbrev after : Answer
  after = answer 0 (state_after (steps (run_in s b) xs) (register_after s.core.register s.core.taken xs)) (steps (run_in s b) xs).buffer

  either_kinds : (t : Bool) (n : ℕ) → (cond t after (answer n s b)).fed.state.kinds ≡ s.kinds
  either_kinds true n = (steps_move (run_in s b) xs).3
  either_kinds false n = refl

  pub feed_kinds : (feed_of s xs b).fed.state.kinds ≡ s.kinds
  unfolding feed_of
  feed_kinds = either_kinds (eqb (first_of (feed_tests s xs (length b))) 0) (first_of (feed_tests s xs (length b)))
