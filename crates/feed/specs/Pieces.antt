-- Feeding piece after piece, the states that come of it, and what demand 3 says of them after each piece.
-- Assumes nothing.
use Rattle.std.specs.Prelude.{◌≡◌, ℕ, ◌^◌, ◌≤◌, ◌<◌, length, take}
use mathlib.Core.List.{List, [], ◌∷◌, flatten}
use Rattle.bits.specs.Bits.{Bytes}
use Rattle.bits.specs.Front.{onto}
use Rattle.util.specs.Crc.{start32}
use Rattle.entry.specs.Adapters.{kind_in}
use Rattle.feed.specs.declared.feeding.State.{State}
use Rattle.feed.specs.Feed.{Answer, register_after, feed_of, open_of}
use Rattle.feed.specs.Prefix.{prefix_of}

-- piece after piece, each fed to the state that the one before left, with the buffer that it left
unfoldable pub feed_many : Answer → List (List ℕ) → Answer
feed_many a [] = a
feed_many a (piece ∷ pieces) = feed_many (feed_of a.fed.state piece a.buffer) pieces

-- the states that an opening leaves, and a feed of any bytes with any buffer to such a state
pub data Left : State → Type 0 where
  opened : (list : List ℕ) (size room : ℕ) → size < 2 ^ 64 → Left (open_of list size room)
  fed : {s : State} → Left s → (piece buffer : List ℕ) → Bytes piece → Left (feed_of s piece buffer).fed.state

-- what an answer tells where `xs` are the bytes so far, after an opening for `size` bytes with `buffer`: it was taken, and the state
-- and every byte of the buffer are what those bytes come to
pub record Told (list : List ℕ) (size : ℕ) (xs buffer : List ℕ) (a : Answer) : Type 0 where
  pub number : a.fed.number ≡ 0
  pub announced : a.fed.state.core.announced ≡ size
  pub taken : a.fed.state.core.taken ≡ length xs
  pub refusal : a.fed.state.core.refusal ≡ (prefix_of (kind_in list) size xs).number
  pub offset : a.fed.state.core.offset ≡ (prefix_of (kind_in list) size xs).offset
  pub count : a.fed.state.core.count ≡ length (prefix_of (kind_in list) size xs).records
  pub written : a.fed.state.core.written ≡ length (flatten (prefix_of (kind_in list) size xs).records)
  pub records : a.buffer ≡ onto (flatten (prefix_of (kind_in list) size xs).records) buffer
  pub register : a.fed.state.core.register ≡ register_after start32 0 xs
  pub header : 16 ≤ length xs → a.fed.state.header ≡ take 16 xs
