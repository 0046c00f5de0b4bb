-- Document 01, "Numbers given back": the number of each refusal. 0 is no refusal's, and 14 to 17 are none's.
-- "Where an answer is an enum, a definition gives this paper's number and values for each case of the enum".
-- Assumes nothing.
use Rattle.std.specs.Prelude.{ℕ, Result, Ok, Err}
use Rattle.entry.specs.declared.refusal.Refusal.{Refusal}
use Rattle.entry.specs.declared.refusal.Refusal.TheVariants.{TooFew, WrongLength, ShortTbt3, SmallBuffer, OddList, ZeroLength, PastEnd, TooShort, NoZero, NotUtf8, OddUtf16, Beyond, Missing, Outside}

abbrev pub refusal_number : Refusal → ℕ
-- "fewer than 16 bytes"
refusal_number TooFew = 1
-- "length + 13 is not the byte count"
refusal_number WrongLength = 2
-- "TBT3 with fewer than 22 bytes"
refusal_number ShortTbt3 = 3
-- "record buffer below 16,368 bytes"
refusal_number SmallBuffer = 4
-- "adapter bytes of odd count"
refusal_number OddList = 5
-- "entry length 0"
refusal_number ZeroLength = 6
-- "entry runs past the end"
refusal_number PastEnd = 7
-- "entry too short for its kind"
refusal_number TooShort = 8
-- "ASCII name without a zero byte"
refusal_number NoZero = 9
-- "name before that zero not UTF-8"
refusal_number NotUtf8 = 10
-- "UTF-16 part of odd length"
refusal_number OddUtf16 = 11
-- "feed beyond the announced size"
refusal_number Beyond = 12
-- "finish before all has arrived"
refusal_number Missing = 13
-- "feed or finish on a state outside the reader's own bounds"
refusal_number Outside = 18

-- the number of an answer: 0, or its refusal's
abbrev pub answer_number : {A : Type 0} → Result A Refusal → ℕ
answer_number (Ok a) = 0
answer_number (Err r) = refusal_number r
