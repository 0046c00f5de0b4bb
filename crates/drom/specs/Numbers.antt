-- Document 01, "Numbers given back": those of a whole DROM, and which of several is told. 8 to 11 are an entry's own (crate entry,
-- specs/Decode.antt), and 12, 13 and 18 are feeding's (crate feed, specs/Feed.antt).
-- Assumes nothing.
use Rattle.std.specs.Prelude.{Bool, cond, List, [], ◌∷◌, ℕ}

abbrev pub accepted : ℕ
accepted = 0

-- fewer than 16 bytes
abbrev pub too_few : ℕ
too_few = 1

-- length + 13 is not the byte count
abbrev pub wrong_length : ℕ
wrong_length = 2

-- TBT3 with fewer than 22 bytes
abbrev pub short_tbt3 : ℕ
short_tbt3 = 3

-- record buffer below 16,368 bytes
abbrev pub small_buffer : ℕ
small_buffer = 4

-- adapter bytes of odd count
abbrev pub odd_list : ℕ
odd_list = 5

-- entry length 0
abbrev pub zero_length : ℕ
zero_length = 6

-- entry runs past the end
abbrev pub past_end : ℕ
past_end = 7

-- the number of the first test that holds, or 0
abbrev pub first_of : List (Bool × ℕ) → ℕ
first_of [] = accepted
first_of (test ∷ tests) = cond test.0 test.1 (first_of tests)
