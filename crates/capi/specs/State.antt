-- A state of feeding in 388 bytes. Any 388 bytes are a state.
-- Assumes nothing.
use Rattle.std.specs.Prelude.{List, [], ◌∷◌, ◌++◌, ℕ}
use Rattle.feed.specs.declared.feeding.Core.{Core}
use Rattle.feed.specs.declared.feeding.State.{State}
use Rattle.capi.specs.Bytes.{le, numbers_bytes, part, number_at}

abbrev pub state_size : ℕ
state_size = 388

-- the bytes, one field after the other: six numbers of eight bytes, the register's four, the refusal's one, and the three tables
abbrev pub core_bytes : Core → List ℕ
core_bytes c =
    numbers_bytes (c.announced ∷ c.taken ∷ c.offset ∷ c.fill ∷ c.count ∷ c.written ∷ [])
    ++ le 4 c.register
    ++ le 1 c.refusal

abbrev pub state_bytes : State → List ℕ
state_bytes s = core_bytes s.core ++ s.header ++ s.pending ++ s.kinds

-- the state in bytes: each field's offset and width
abbrev pub core_in : List ℕ → Core
core_in bytes =
    record {
      announced = number_at 0 8 bytes;
      taken = number_at 8 8 bytes;
      offset = number_at 16 8 bytes;
      fill = number_at 24 8 bytes;
      count = number_at 32 8 bytes;
      written = number_at 40 8 bytes;
      register = number_at 48 4 bytes;
      refusal = number_at 52 1 bytes;
    }

abbrev pub state_in : List ℕ → State
state_in bytes =
    record {
      core = core_in bytes;
      header = part 53 16 bytes;
      pending = part 69 255 bytes;
      kinds = part 324 64 bytes;
    }
