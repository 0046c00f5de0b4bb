-- A state that drom_open leaves, or drom_feeds after it, is read again as the state that they come to (`left_bytes`): no drom_feed
-- and no drom_finish of it answers 18 (`feed_never_18`, `finish_never_18`).
-- Assumes nothing.
use mathlib.Core.Bool.{Bool, true, false, cond, ◌||◌}
use mathlib.Core.List.{List}
use mathlib.Core.Path.{◌≡◌, refl, sym, subst}
use Prim.Native.Nat.{ℕ, ◌≤◌}
use native.Mathlib.Omega.{arith}
use borrow.Author.Tests.{ltb-true, ltb-false}
use lib.ListN.{length, replicate, drop, length-replicate}
use Rattle.bits.specs.Front.{onto}
use Rattle.feed.specs.declared.feeding.State.{State}
use Rattle.feed.specs.Feed.{outside, open_of, finish_of}
use Rattle.feed.specs.Pieces.{Left}
use Rattle.feed.specs.Pieces.Left.{opened, fed}
use Rattle.feed.proofs.Never.{left_sound, left_refusal, never, finish_never}
use Rattle.feed.proofs.Widths.{left_fits, left_register}
use Rattle.capi.specs.State.{state_size, state_bytes, state_in}
use Rattle.capi.specs.Calls.{no_room, no_report, no_state, feed_in, feed_answer, finish_answer}
use Rattle.capi.specs.Feeding.{LeftBytes}
use Rattle.capi.specs.Feeding.LeftBytes.{by_open, by_feed}
use Rattle.capi.proofs.StateLaws.{Typed, read_back}

-- such a state has the widths and lengths that its types say
pub left_typed : {s : State} → Left s → Typed s
left_typed h =
    let g = left_sound h (replicate 16368 0) (omega (arith, length-replicate {A = ℕ} 16368 0)) in
    let f = left_fits h in
    let r = left_register h in
    let n = left_refusal h in
    record {
      announced = omega arith;
      taken = omega arith;
      offset = omega arith;
      fill = omega arith;
      count = omega arith;
      written = omega arith;
      register = omega arith;
      refusal = omega arith;
      header = g.head;
      pending = g.long;
      kinds = g.table;
    }

-- a state that a call leaves, where it was lent room for one
written_left : (s : State) (state : List ℕ) → (state_size ≤ length state → Left s)
    → state_size ≤ length (cond (no_state state) state (onto (state_bytes s) state)) → Left (state_in (cond (no_state state) state (onto (state_bytes s) state)))
written_left s state left = go (no_state state) refl
  where
    go : (short : Bool) → no_state state ≡ short → state_size ≤ length (cond short state (onto (state_bytes s) state))
        → Left (state_in (cond short state (onto (state_bytes s) state)))
    go true e long = absurd (omega (arith, ltb-true (length state) state_size e))
    go false e long =
        let is = left (ltb-false (length state) state_size e) in
        subst Left (sym (read_back s (drop (length (state_bytes s)) state) (left_typed is))) is

pub left_bytes : {state : List ℕ} → LeftBytes state → state_size ≤ length state → Left (state_in state)
left_bytes (by_open list size records state w) = written_left (open_of list size (length records)) state (λ long. opened list size (length records) w)
left_bytes (by_feed {state} before piece records k) =
    written_left (feed_in state piece records).fed.state state (λ long. fed (left_bytes before long) piece records k)

pub feed_never_18 : {state : List ℕ} → LeftBytes state → (piece records : List ℕ) → feed_answer state piece records ≡ outside → ⊥
feed_never_18 {state} left piece records = go (no_state state) refl
  where
    go : (short : Bool) → no_state state ≡ short → cond short no_room (feed_in state piece records).fed.number ≡ outside → ⊥
    go true e h = omega arith
    go false e h = never (left_bytes left (ltb-false (length state) state_size e)) piece records h

pub finish_never_18 : {state : List ℕ} → LeftBytes state → (report : List ℕ) → finish_answer state report ≡ outside → ⊥
finish_never_18 {state} left report = go (no_state state) (no_report report) refl
  where
    go : (short none : Bool) → no_state state ≡ short → cond (short || none) no_room (finish_of (state_in state)).number ≡ outside → ⊥
    go true none e h = omega arith
    go false true e h = omega arith
    go false false e h = finish_never (left_bytes left (ltb-false (length state) state_size e)) h
