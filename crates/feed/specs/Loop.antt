-- What holds in the loop over a piece: the bounds of a run as facts, as far as the loop needs them, with those that the types and the
-- buffer lent give; and what the steps over a piece tell of a run. Only private functions' contracts cite it; no public promise rests on it.
-- Assumes nothing.
use Rattle.std.specs.Prelude.{◌≡◌, ℕ, ◌+◌, ◌-◌, ◌*◌, ◌^◌, ◌≤◌, ◌<◌, List, length, get_or, take}
use Rattle.feed.specs.declared.feeding.Core.{Core}
use Rattle.feed.specs.declared.feeding.State.{State}
use Rattle.feed.specs.Run.{Run, steps}

-- while nothing is refused
pub record Live (c : Core) : Type 0 where
  pub small : 16 ≤ c.taken → c.announced ≤ 4108
  pub filling : c.fill ≤ 254
  pub fewer : c.count ≤ c.taken
  pub kept : c.fill ≤ c.taken - 16
  pub room : c.written ≤ 4 * (c.taken - 16 - c.fill)

pub record Good (r : Run) : Type 0 where
  pub live : r.core.refusal ≡ 0 → Live r.core
  pub wide : r.core.announced < 2 ^ 64
  pub within : r.core.taken ≤ r.core.announced
  pub first : get_or r.pending 0 0 < 256
  pub head : length r.header ≡ 16
  pub long : length r.pending ≡ 255
  pub table : length r.kinds ≡ 64
  pub lent : 16368 ≤ length r.buffer

-- a byte of an entry can be kept, and there is room for the record, should the entry be whole with it
pub record Ending (r : Run) : Type 0 where
  pub filling : r.core.fill ≤ 254
  pub counted : r.core.fill < r.core.taken
  pub room : r.core.written + 4 * (r.core.fill + 1) ≤ length r.buffer
  pub few : r.core.count < 20000
  pub small : r.core.written < 20000

-- part of an entry is pending, and more than one byte of it is to come
pub record Amid (s : State) : Type 0 where
  pub going : s.core.refusal ≡ 0
  pub late : 22 ≤ s.core.taken
  pub some : 0 < s.core.fill
  pub more : s.core.fill + 1 < get_or s.pending 0 0

-- k bytes at the front of a piece lead from a run to another
pub record Through (r : Run) (piece : List ℕ) (k : ℕ) (r' : Run) : Type 0 where
  pub same : r' ≡ steps r (take k piece)
  pub within : k ≤ length piece
