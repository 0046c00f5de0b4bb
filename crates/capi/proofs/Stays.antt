-- A drom_feed that does not answer 0 changes no byte of the lent state (`refused_stays`) and none of the records (`refused_records`),
-- whatever they are: a state that is read and written where it stood is as it was (`written_back`). No drom_feed changes a byte behind
-- the 388 of a state (`rest_stays`).
-- Assumes nothing.
use Prim.Native.Nat.{ℕ, zero, suc, ◌+◌, ◌*◌, ◌≤◌}
use mathlib.Core.Bool.{Bool, true, false, cond}
use mathlib.Core.List.{List, [], ◌∷◌, ◌++◌}
use mathlib.Core.Path.{◌≡◌, refl, sym, ap, ap₂, ◌∙◌}
use native.Mathlib.Omega.{arith}
use borrow.Author.Tests.{ltb-false}
use lib.ListN.{length, take, drop, length-drop}
use lib.Seq.{take-add, drop_at, drop-drop, length-take-le}
use Rattle.bits.specs.Bits.{Bytes}
use Rattle.bits.specs.Front.{onto}
use Rattle.feed.specs.declared.feeding.State.{State}
use Rattle.feed.specs.Feed.{Answer}
use Rattle.feed.proofs.Cutting.{feed_refused}
use Rattle.feed.proofs.Widths.{feed_long}
use Rattle.capi.specs.Bytes.{le, numbers_bytes, part, number_at}
use Rattle.capi.specs.State.{state_size, core_bytes, state_bytes, core_in, state_in}
use Rattle.capi.specs.Calls.{no_room, no_state, feed_in, feed_answer, feed_state, feed_records}
use Rattle.capi.proofs.ByteLaws.{le_part}
use Rattle.capi.proofs.StateLaws.{to_kinds, as_stood}

-- ---- parts of bytes

join : (bytes : List ℕ) (at w v : ℕ) → part at w bytes ++ part (at + w) v bytes ≡ part at (w + v) bytes
join bytes at w v =
    ap (λ (l : List ℕ). part at w bytes ++ take v l) (sym (drop-drop w at bytes)) ∙ sym (take-add w v (drop at bytes))

abbrev numbers_in : List ℕ → ℕ → ℕ → List ℕ
numbers_in bytes zero at = []
numbers_in bytes (suc n) at = number_at at 8 bytes ∷ numbers_in bytes n (at + 8)

-- ---- a state written where it stood

module _ (bytes : List ℕ) (k : Bytes bytes) where
  numbers_stood : (n at : ℕ) → at + 8 * n ≤ length bytes → numbers_bytes (numbers_in bytes n at) ≡ part at (8 * n) bytes
  unfolding numbers_bytes
  numbers_stood zero at h = refl
  numbers_stood (suc n) at h =
      let e : 8 + 8 * n ≡ 8 * suc n = omega arith in
      ap₂ (λ (x y : List ℕ). x ++ y) (le_part bytes k at 8 (omega arith)) (numbers_stood n (at + 8) (omega arith))
      ∙ join bytes at 8 (8 * n)
      ∙ ap (λ (w : ℕ). part at w bytes) e

  module _ (long : state_size ≤ length bytes) where
    core_stood : core_bytes (core_in bytes) ≡ part 0 53 bytes
    core_stood =
        ap₂ (λ (x y : List ℕ). x ++ y ++ le 1 (number_at 52 1 bytes)) (numbers_stood 6 0 (omega arith)) (le_part bytes k 48 4 (omega arith))
        ∙ ap₂ (λ (x y : List ℕ). x ++ y) (join bytes 0 48 4) (le_part bytes k 52 1 (omega arith))
        ∙ join bytes 0 52 1

    state_stood : state_bytes (state_in bytes) ≡ take state_size bytes
    state_stood =
        ap (λ (x : List ℕ). x ++ part 53 16 bytes ++ part 69 255 bytes ++ part 324 64 bytes) core_stood
        ∙ ap (λ (x : List ℕ). x ++ part 69 255 bytes ++ part 324 64 bytes) (join bytes 0 53 16)
        ∙ ap (λ (x : List ℕ). x ++ part 324 64 bytes) (join bytes 0 69 255)
        ∙ join bytes 0 324 64

    pub written_back : onto (state_bytes (state_in bytes)) bytes ≡ bytes
    written_back = ap (λ (x : List ℕ). onto x bytes) state_stood ∙ sym (as_stood [] bytes state_size (omega arith))

-- ---- what a feed leaves

pub refused_stays : (state piece records : List ℕ) → Bytes state → (feed_answer state piece records ≡ 0 → ⊥) → feed_state state piece records ≡ state
refused_stays state piece records k = go (no_state state) refl
  where
    go : (short : Bool) → no_state state ≡ short → (cond short no_room (feed_in state piece records).fed.number ≡ 0 → ⊥)
        → cond short state (onto (state_bytes (feed_in state piece records).fed.state) state) ≡ state
    go true e refused = refl
    go false e refused =
        ap (λ (a : Answer). onto (state_bytes a.fed.state) state) (feed_refused (state_in state) piece records refused)
        ∙ written_back state k (ltb-false (length state) state_size e)

pub refused_records : (state piece records : List ℕ) → (feed_answer state piece records ≡ 0 → ⊥) → feed_records state piece records ≡ records
refused_records state piece records = go (no_state state)
  where
    go : (short : Bool) → (cond short no_room (feed_in state piece records).fed.number ≡ 0 → ⊥)
        → cond short records (feed_in state piece records).buffer ≡ records
    go true refused = refl
    go false refused = ap (λ (a : Answer). a.buffer) (feed_refused (state_in state) piece records refused)

pub rest_stays : (state piece records : List ℕ) → drop state_size (feed_state state piece records) ≡ drop state_size state
rest_stays state piece records = go (no_state state) refl
  where
    after : State
    after = (feed_in state piece records).fed.state

    table : (at width : ℕ) → at + width ≤ length state → length (part at width state) ≡ width
    table at width h = length-take-le width (drop at state) (omega (arith, length-drop at state))

    go : (short : Bool) → no_state state ≡ short → drop state_size (cond short state (onto (state_bytes after) state)) ≡ drop state_size state
    go true e = refl
    go false e =
        let long = ltb-false (length state) state_size e in
        let as_long = feed_long (state_in state) piece records in
        let n : length (state_bytes after) ≡ state_size =
        to_kinds after (as_long.0 ∙ table 53 16 (omega arith)) (as_long.1 ∙ table 69 255 (omega arith)) (as_long.2 ∙ table 324 64 (omega arith))
        in
        drop_at (state_bytes after) (drop (length (state_bytes after)) state) state_size n ∙ ap (λ (m : ℕ). drop m state) n
