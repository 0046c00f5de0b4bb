-- The words of a line, and the numbers and bytes that they stand for.
use Rattle.std.specs.Option.{is_some}
use Rattle.std.specs.Prelude.{ℕ, ◌+◌, ◌-◌, ◌*◌, ◌^◌, ◌/◌, ◌%◌, Bool, true, false, not, cond, ◌&&◌, ◌||◌, List, [], ◌∷◌, length, nat_le, nat_lt, ◌==◌, Option, None, Some}

-- a line that holds nothing to answer: it is empty, or begins with '#'
abbrev pub is_comment : List ℕ → Bool
is_comment [] = true
is_comment (b ∷ bs) = b == 35

-- the number that a hex digit stands for; upper-case letters are none
abbrev pub hex_digit : ℕ → Option ℕ
hex_digit b =
    cond (nat_le 48 b && nat_le b 57) (Some (b - 48))
    (cond (nat_le 97 b && nat_le b 102) (Some (b - 87)) None)

-- the number that decimal digits write when they follow those of n, of 64 bits; none where a byte is no digit
abbrev pub decimal_after : ℕ → List ℕ → Option ℕ
decimal_after n [] = Some n
decimal_after n (b ∷ bs) =
    cond (nat_le 48 b && nat_le b 57 && nat_lt (n * 10 + (b - 48)) (2 ^ 64))
    (decimal_after (n * 10 + (b - 48)) bs) None

-- the number that a word of decimal digits stands for; none for the empty word
abbrev pub decimal_number : List ℕ → Option ℕ
decimal_number [] = None
decimal_number (b ∷ bs) = decimal_after 0 (b ∷ bs)

-- a number below 10,000,000, and else none
abbrev pub below_eight_digits : Option ℕ → Option ℕ
below_eight_digits None = None
below_eight_digits (Some n) = cond (nat_lt n 10000000) (Some n) None

-- every byte is a hex digit
abbrev pub all_hex : List ℕ → Bool
all_hex [] = true
all_hex (b ∷ bs) = is_some (hex_digit b) && all_hex bs

-- the word -
abbrev pub is_dash : List ℕ → Bool
is_dash [] = false
is_dash (b ∷ []) = b == 45
is_dash (a ∷ b ∷ bs) = false

-- how many bytes a word stands for: two hex digits each, and - for no bytes. Nothing where there is less room, and for the
-- empty word, an odd one and one with another byte than a hex digit
abbrev pub byte_count : ℕ → List ℕ → Option ℕ
byte_count room word =
    cond (is_dash word) (Some 0)
    (cond (length word == 0 || length word % 2 == 1 || nat_lt room (length word / 2) || not (all_hex word)) None
    (Some (length word / 2)))
