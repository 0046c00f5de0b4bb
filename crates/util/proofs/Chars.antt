-- The case laws of `is_utf8`: what the character at the front of a list of bytes says of the whole, and the same at the front of any bytes, for `char_len`.
-- Assumes nothing.
use Rattle.std.proofs.Common.{◌≡◌, ℕ, suc, ◌+◌, ◌<◌, ◌≤◌, true, false, List, [], ◌∷◌, length, get_or, drop, ◌∙◌, arith, length-drop, take_all, le-leb}
use borrow.Author.Tests.{lt-leb}
use Rattle.util.specs.Utf8.{utf8_1, utf8_2, utf8_3, utf8_4, is_utf8}
use Rattle.std.proofs.lemmas.Bool.{false_from_ne_true}
use Rattle.util.specs.Chars.{Two, Three, Four}
use Rattle.util.proofs.Rows.{two_means, three_means, four_means, no_two, no_three}

pub ascii : (a : ℕ) → a < 0x80 → utf8_1 a ≡ true
unfolding utf8_1
ascii a h = rw (le-leb 0 a (omega arith)) (le-leb a 0x7F (omega arith))

pub not_ascii : (a : ℕ) → 0x80 ≤ a → utf8_1 a ≡ false
unfolding utf8_1
not_ascii a h = rw (le-leb 0 a (omega arith)) (lt-leb a 0x7F (omega arith))

-- ---- a character is passed over, a missing one ends the test

pub ok1 : (a : ℕ) (bs : List ℕ) → utf8_1 a ≡ true → is_utf8 (a ∷ bs) ≡ is_utf8 bs
unfolding is_utf8
ok1 a [] h = rw h
ok1 a (b ∷ []) h = rw h
ok1 a (b ∷ c ∷ []) h = rw h
ok1 a (b ∷ c ∷ d ∷ bs) h = rw h

pub bad1 : (a : ℕ) → utf8_1 a ≡ false → is_utf8 (a ∷ []) ≡ false
unfolding is_utf8
bad1 a h = h

module _ (a b : ℕ) (not1 : utf8_1 a ≡ false) where
  pub ok2 : (bs : List ℕ) → utf8_2 a b ≡ true → is_utf8 (a ∷ b ∷ bs) ≡ is_utf8 bs
  unfolding is_utf8
  ok2 [] h = rw (not1, h)
  ok2 (c ∷ []) h = rw (not1, h)
  ok2 (c ∷ d ∷ bs) h = rw (not1, h)

  pub bad2 : utf8_2 a b ≡ false → is_utf8 (a ∷ b ∷ []) ≡ false
  unfolding is_utf8
  bad2 h = rw (not1, h)

  module _ (c : ℕ) (not2 : utf8_2 a b ≡ false) where
    pub ok3 : (bs : List ℕ) → utf8_3 a b c ≡ true → is_utf8 (a ∷ b ∷ c ∷ bs) ≡ is_utf8 bs
    unfolding is_utf8
    ok3 [] h = rw (not1, not2, h)
    ok3 (d ∷ bs) h = rw (not1, not2, h)

    pub bad3 : utf8_3 a b c ≡ false → is_utf8 (a ∷ b ∷ c ∷ []) ≡ false
    unfolding is_utf8
    bad3 h = rw (not1, not2, h)

    module _ (d : ℕ) (not3 : utf8_3 a b c ≡ false) (bs : List ℕ) where
      pub ok4 : utf8_4 a b c d ≡ true → is_utf8 (a ∷ b ∷ c ∷ d ∷ bs) ≡ is_utf8 bs
      unfolding is_utf8
      ok4 h = rw (not1, not2, not3, h)

      pub bad4 : utf8_4 a b c d ≡ false → is_utf8 (a ∷ b ∷ c ∷ d ∷ bs) ≡ false
      unfolding is_utf8
      bad4 h = rw (not1, not2, not3, h)

-- ---- the same at the front of a list, by bounds on its bytes

pub char1 : (bs : List ℕ) → 0 < length bs → get_or bs 0 0 < 0x80 → is_utf8 bs ≡ is_utf8 (drop 1 bs)
char1 [] l h = absurd (omega arith)
char1 (a ∷ bs) l h = ok1 a bs (ascii a h)

pub char2 : (bs : List ℕ) → Two bs → is_utf8 bs ≡ is_utf8 (drop 2 bs)
char2 [] t = absurd (omega arith)
char2 (a ∷ []) t = absurd (omega arith)
char2 (a ∷ b ∷ bs) t = ok2 a b (not_ascii a (omega arith)) bs ((two_means a b).1 (omega arith))

pub char3 : (bs : List ℕ) → Three bs → is_utf8 bs ≡ is_utf8 (drop 3 bs)
char3 [] t = absurd (omega arith)
char3 (a ∷ []) t = absurd (omega arith)
char3 (a ∷ b ∷ []) t = absurd (omega arith)
char3 (a ∷ b ∷ c ∷ bs) t = ok3 a b (not_ascii a (omega arith)) c (no_two a b (omega arith)) bs ((three_means a b c).1 (grind arith))

pub char4 : (bs : List ℕ) → Four bs → is_utf8 bs ≡ is_utf8 (drop 4 bs)
char4 [] t = absurd (omega arith)
char4 (a ∷ []) t = absurd (omega arith)
char4 (a ∷ b ∷ []) t = absurd (omega arith)
char4 (a ∷ b ∷ c ∷ []) t = absurd (omega arith)
char4 (a ∷ b ∷ c ∷ d ∷ bs) t =
    ok4 a b (not_ascii a (omega arith)) c (no_two a b (omega arith)) d (no_three a b c (omega arith)) bs ((four_means a b c d).1 (grind arith))

-- no row fits where the bounds are refuted
module _ (a b : ℕ) (bs : List ℕ) where
  not_two : (Two (a ∷ b ∷ bs) → ⊥) → utf8_2 a b ≡ false
  not_two h = false_from_ne_true _ (λ e. let r = (two_means a b).0 e in h (omega arith))

  not_three : (c : ℕ) → (Three (a ∷ b ∷ c ∷ bs) → ⊥) → utf8_3 a b c ≡ false
  not_three c h = false_from_ne_true _ (λ e. let r = (three_means a b c).0 e in h (grind arith))

  not_four : (c d : ℕ) → (Four (a ∷ b ∷ c ∷ d ∷ bs) → ⊥) → utf8_4 a b c d ≡ false
  not_four c d h = false_from_ne_true _ (λ e. let r = (four_means a b c d).0 e in h (grind arith))

pub no_char : (bs : List ℕ) → 0 < length bs → 0x80 ≤ get_or bs 0 0 → (Two bs → ⊥) → (Three bs → ⊥) → (Four bs → ⊥) → is_utf8 bs ≡ false
no_char [] l h two three four = absurd (omega arith)
no_char (a ∷ []) l h two three four = bad1 a (not_ascii a h)
no_char (a ∷ b ∷ []) l h two three four = bad2 a b (not_ascii a h) (not_two a b [] two)
no_char (a ∷ b ∷ c ∷ []) l h two three four = bad3 a b (not_ascii a h) c (not_two a b (c ∷ []) two) (not_three a b [] c three)
no_char (a ∷ b ∷ c ∷ d ∷ bs) l h two three four =
    bad4 a b (not_ascii a h) c (not_two a b (c ∷ d ∷ bs) two) d (not_three a b (d ∷ bs) c three) bs (not_four a b bs c d four)

-- for `char_len`
pub ruleset chars = (char1, char2, char3, char4, no_char)

-- for `is_utf8`, where it passes over a character
pub ruleset passed = (take_all, length-drop)
