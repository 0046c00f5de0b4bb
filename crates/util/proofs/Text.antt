-- What the first units decode to and show, and the loops over the units: the text so far, and what is left.
-- Assumes nothing.
use Rattle.std.proofs.Common.{◌≡◌, ℕ, ◌+◌, ◌-◌, ◌*◌, ◌/◌, ◌≤◌, Bool, true, false, ◌&&◌, Option, None, List, [], ◌∷◌, ◌++◌, length, get_or, take, drop, sym, refl, ap, ◌∙◌, ap₂, append-nil, le_of_suc-le-suc, not-suc-le-zero, arith, length-drop, take-append-drop, le-leb}
use borrow.Author.Tests.{lt-leb}
use Rattle.bits.specs.Front.{onto}
use Rattle.util.specs.Range.{range}
use Rattle.util.specs.Utf16.{units, scalar, is_pair, alone, decode, kept, kept_of, text_of}
use Rattle.util.specs.Shown.{shown, StartsWith, Shows}

nothing : text_of [] ≡ []
unfolding text_of decode kept_of
nothing = refl

wide : (n : ℕ) → 0x7F ≤ n → kept (scalar n) ≡ []
unfolding kept
wide n h = rw (le-leb 0x21 n (omega arith), lt-leb n 0x7E (omega arith))

-- ---- fewer than two bytes are no unit

short : (xs : List ℕ) → length xs ≤ 1 → units xs ≡ []
short [] h = refl
short (x ∷ []) h = refl
short (x ∷ y ∷ xs) h = absurd (not-suc-le-zero (le_of_suc-le-suc h))

pub units_none : (bs : List ℕ) (i : ℕ) → length bs ≤ i + 1 → units (drop i bs) ≡ []
units_none bs i h = short (drop i bs) (omega (arith, length-drop i bs))

-- ---- a pair, or a unit by itself

pub decode_pair : (u v : ℕ) (us : List ℕ) → is_pair u v ≡ true → decode (u ∷ v ∷ us) ≡ scalar (0x10000 + (u - 0xD800) * 0x400 + (v - 0xDC00)) ∷ decode us
unfolding decode
decode_pair u v us h = rw h

pub decode_alone : (u : ℕ) (us : List ℕ) → is_pair u (get_or us 0 0) ≡ false → decode (u ∷ us) ≡ alone u ∷ decode us
unfolding decode
decode_alone u [] h = refl
decode_alone u (v ∷ us) h = rw h

pair : (u v : ℕ) (us : List ℕ) → is_pair u v ≡ true → text_of (u ∷ v ∷ us) ≡ text_of us
unfolding text_of kept_of
pair u v us h = rw (decode_pair u v us h) (rw (wide (0x10000 + (u - 0xD800) * 0x400 + (v - 0xDC00)) (omega arith)))

single : (u : ℕ) (us : List ℕ) → is_pair u (get_or us 0 0) ≡ false → text_of (u ∷ us) ≡ kept (alone u) ++ text_of us
unfolding text_of kept_of
single u us h = rw (decode_alone u us h)

-- the last unit is by itself
pub last_alone : (u : ℕ) → is_pair u 0 ≡ false
unfolding is_pair
last_alone u = go (range 0xD800 0xDBFF u)
  where
    go : (t : Bool) → (t && false) ≡ false
    go true = refl
    go false = refl

-- nor does a unit that is no high surrogate begin a pair
no_high : (u v : ℕ) → range 0xD800 0xDBFF u ≡ false → is_pair u v ≡ false
unfolding is_pair
no_high u v h = rw h

-- ---- a step

module _ (bs : List ℕ) (i u : ℕ) (here : StartsWith bs i u) where
  -- a pair shows nothing: its character is past 7E
  pub shows_pair : (v : ℕ) → StartsWith bs (i + 2) v → is_pair u v ≡ true → Shows bs i None (i + 4)
  shows_pair v after h =
      let e : i + 2 + 2 ≡ i + 4 = omega arith in
      record {
        text =
            ap text_of (here.first ∙ ap (λ (us : List ℕ). u ∷ us) (after.first ∙ ap (λ (j : ℕ). v ∷ units (drop j bs)) e))
            ∙ pair u v (units (drop (i + 4) bs)) h;
        on = omega arith;
        inside = omega (arith, after.inside);
      }

  alone_shows : is_pair u (get_or (units (drop (i + 2) bs)) 0 0) ≡ false → (b : Option ℕ) → shown b ≡ kept (alone u) → Shows bs i b (i + 2)
  alone_shows h b e = record {
    text =
        ap text_of here.first
        ∙ single u (units (drop (i + 2) bs)) h
        ∙ ap (λ (t : List ℕ). t ++ text_of (units (drop (i + 2) bs))) (sym e);
    on = omega arith;
    inside = here.inside;
  }

  pub shows_alone : (v : ℕ) → StartsWith bs (i + 2) v → is_pair u v ≡ false → (b : Option ℕ) → shown b ≡ kept (alone u) → Shows bs i b (i + 2)
  shows_alone v after h = alone_shows (ap (λ (us : List ℕ). is_pair u (get_or us 0 0)) after.first ∙ h)

  -- a unit that begins no pair
  pub shows_other : range 0xD800 0xDBFF u ≡ false → (b : Option ℕ) → shown b ≡ kept (alone u) → Shows bs i b (i + 2)
  shows_other h = alone_shows (no_high u (get_or (units (drop (i + 2) bs)) 0 0) h)

  pub shows_last : length bs ≤ i + 2 + 1 → (b : Option ℕ) → shown b ≡ kept (alone u) → Shows bs i b (i + 2)
  shows_last end = alone_shows (ap (λ (us : List ℕ). is_pair u (get_or us 0 0)) (units_none bs (i + 2) end) ∙ last_alone u)

-- ---- a loop of steps that counts

-- n characters, and what is shown from i on, are as many as the whole text has
pub record Counting (bs : List ℕ) (i n : ℕ) : Type 0 where
  pub inside : i ≤ length bs
  pub small : 2 * n ≤ i
  pub sum : n + length (text_of (units (drop i bs))) ≡ length (text_of (units bs))

none_left : (bs : List ℕ) (i : ℕ) → length bs ≤ i + 1 → text_of (units (drop i bs)) ≡ []
none_left bs i h = ap text_of (units_none bs i h) ∙ nothing

pub counting_end : (bs : List ℕ) (i n : ℕ) → Counting bs i n → length bs ≤ i + 1 → n ≡ length (text_of (units bs))
counting_end bs i n g end = omega (arith, g.sum, ap length (none_left bs i end))

-- ---- a loop of steps that writes

-- the first n places of out, and what is shown from i on, are the whole text; the other places are as they were
pub record Writing (bs out₀ out : List ℕ) (i n : ℕ) : Type 0 where
  pub counts : Counting bs i n
  pub long : length out ≡ length out₀
  pub text : take n out ++ text_of (units (drop i bs)) ≡ text_of (units bs)
  pub rest : drop n out ≡ drop n out₀

pub writing_end : (bs out₀ out : List ℕ) (i n : ℕ) → length bs / 2 ≤ length out₀ → Writing bs out₀ out i n → length bs ≤ i + 1
    → (n ≡ length (text_of (units bs))) × (out ≡ onto (text_of (units bs)) out₀)
writing_end bs out₀ out i n fits g end = (count, sym (take-append-drop n out) ∙ ap₂ ◌++◌ all (g.rest ∙ ap (λ (k : ℕ). drop k out₀) count))
  where
    all : take n out ≡ text_of (units bs)
    all = sym (append-nil (take n out)) ∙ ap (λ (t : List ℕ). take n out ++ t) (sym (none_left bs i end)) ∙ g.text

    count : n ≡ length (text_of (units bs))
    count = counting_end bs i n g.counts end

-- for `next_shown`
pub ruleset steps = (shows_pair, shows_alone, shows_other, shows_last)
