-- Bytes at the front of a lent buffer: what the buffer holds afterwards, and what a writer promises.
use Rattle.std.specs.Prelude.{ℕ, cond, List, [], ◌++◌, ◌≡◌, leb, length, drop}

-- `bytes` at the front of a buffer, and every other byte as lent.
abbrev pub onto : List ℕ → List ℕ → List ℕ
onto bytes buffer = bytes ++ drop (length bytes) buffer

-- The buffer was lent as `before` and came back as `after`, with `bytes` at its front. `count` is how many they are.
pub record Wrote (bytes before after : List ℕ) (count : ℕ) : Type 0 where
  pub holds : after ≡ onto bytes before
  pub counts : count ≡ length bytes

-- `bytes` where there is room for all of them, and else nothing.
abbrev pub fitting : List ℕ → ℕ → List ℕ
fitting bytes room = cond (leb (length bytes) room) bytes []

-- All of `bytes` were written, or, where the buffer has no room for them, nothing.
pub record Put (bytes before after : List ℕ) (count : ℕ) : Type 0 where
  pub wrote : Wrote (fitting bytes (length before)) before after count
