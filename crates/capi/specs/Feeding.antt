-- Feeding by drom_open and drom_feed, over the bytes that a caller lends: the states that come of it, piece after piece, and what a
-- caller has after each.
-- Assumes nothing.
use Rattle.std.specs.Prelude.{◌≡◌, ℕ, ◌^◌, ◌<◌, length}
use mathlib.Core.List.{List, [], ◌∷◌, flatten}
use Rattle.bits.specs.Bits.{Bytes}
use Rattle.bits.specs.Front.{onto}
use Rattle.entry.specs.Adapters.{kind_in}
use Rattle.feed.specs.Feed.{answer}
use Rattle.feed.specs.Prefix.{prefix_of}
use Rattle.feed.specs.Pieces.{Told}
use Rattle.capi.specs.State.{state_in}
use Rattle.capi.specs.Calls.{open_state, feed_answer, feed_state, feed_records, count_answer, bytes_answer}

-- the bytes that drom_open leaves of any that are lent as a state, and drom_feed, with any piece and records, of such bytes
pub data LeftBytes : List ℕ → Type 0 where
  by_open : (list : List ℕ) (size : ℕ) (records state : List ℕ) → size < 2 ^ 64 → LeftBytes (open_state list size records state)
  by_feed : {state : List ℕ} → LeftBytes state → (piece records : List ℕ) → Bytes piece → LeftBytes (feed_state state piece records)

-- what a caller lends to each feed
pub record Lent : Type 0 where
  pub state : List ℕ
  pub records : List ℕ

abbrev pub lending : List ℕ → List ℕ → Lent
lending state records = record { state = state; records = records }

-- both after drom_open, which leaves the records as they were
abbrev pub open_lent : List ℕ → ℕ → List ℕ → List ℕ → Lent
open_lent list size records state = lending (open_state list size records state) records

-- both after drom_feed of a piece
abbrev pub feed_lent : Lent → List ℕ → Lent
feed_lent lent piece = lending (feed_state lent.state piece lent.records) (feed_records lent.state piece lent.records)

-- both after drom_feed of piece after piece, each with what the one before left
unfoldable pub feed_each : Lent → List (List ℕ) → Lent
feed_each lent [] = lent
feed_each lent (piece ∷ pieces) = feed_each (feed_lent lent piece) pieces

-- what each of these feeds answers
unfoldable pub answers_each : Lent → List (List ℕ) → List ℕ
answers_each lent [] = []
answers_each lent (piece ∷ pieces) = feed_answer lent.state piece lent.records ∷ answers_each (feed_lent lent piece) pieces

-- what a caller sees where `xs` are the bytes so far, after drom_open for `size` bytes with `records`: the two calls on a state, every
-- byte of the records, and the state that finish and the next feed read
pub record Seen (list : List ℕ) (size : ℕ) (xs records : List ℕ) (lent : Lent) : Type 0 where
  pub count : count_answer lent.state ≡ length (prefix_of (kind_in list) size xs).records
  pub bytes : bytes_answer lent.state ≡ length (flatten (prefix_of (kind_in list) size xs).records)
  pub buffer : lent.records ≡ onto (flatten (prefix_of (kind_in list) size xs).records) records
  pub told : Told list size xs records (answer 0 (state_in lent.state) lent.records)
