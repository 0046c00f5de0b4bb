-- Turns of the loops over bytes and over units, as laws. The check finds them by itself, so that no proof cites them; docs/PORT.md and docs/DESIGN-PASS.md name them.
-- Assumes nothing.
use Rattle.std.proofs.Common.{◌≡◌, refl, ℕ, suc, ◌+◌, ◌-◌, ◌*◌, ◌<◌, Option, Some, None, List, [], ◌∷◌, ◌++◌, length, get_or, take, drop, set, sym, ap, ◌∙◌, ap₂, le_of_eq, append_assoc, add-one, arith, length-drop, length-append, length-set, take_all, drop-cons, drop-drop, take-suc-set, drop-set-lt}
use Rattle.util.specs.Crc.{over}
use Rattle.util.specs.Utf16.{units, text_of}
use Rattle.util.specs.Shown.{shown, Shows}
use native.Mathlib.Numerals.{towards_suc}
use Rattle.util.proofs.Text.{Counting, Writing}

-- a loop over the bytes: what is left at i, from the register c there, comes to r in all
module _ (f : ℕ → ℕ → ℕ) (bs : List ℕ) (i c r d : ℕ) (left : over f c (drop i bs) ≡ r) where
  pub over_turn : i < length bs → d ≡ f c (get_or bs i 0) → over f d (drop (i + 1) bs) ≡ r
  over_turn h e =
      ap₂ (over f) e (ap (λ (k : ℕ). drop k bs) (add-one i)) ∙ ap (over f c) (sym (drop-cons bs i 0 h)) ∙ left

  pub over_rest : d ≡ over f c (take (length bs - i) (drop i bs)) → d ≡ r
  over_rest ed = ed ∙ ap (over f c) (take_all (length bs - i) (drop i bs) (le_of_eq (length-drop i bs))) ∙ left

-- the units from a place on, where two bytes are left
pub units_at : (bs : List ℕ) (i : ℕ) → i + 1 < length bs → units (drop i bs) ≡ (get_or bs i 0 + 256 * get_or bs (i + 1) 0) ∷ units (drop (i + 2) bs)
units_at bs i h = simp towards_suc (rw (drop-cons bs i 0 (omega arith), drop-cons bs (suc i) 0 (omega arith)))

pub units_cons : (bs : List ℕ) (i : ℕ) → i + 1 < length bs → units (drop i bs) ≡ get_or (units (drop i bs)) 0 0 ∷ units (drop (i + 2) bs)
units_cons bs i h = units_at bs i h ∙ ap (λ (u : ℕ). u ∷ units (drop (i + 2) bs)) (sym (ap (λ (us : List ℕ). get_or us 0 0) (units_at bs i h)))

-- a loop over the units: at its start, by a step that shows nothing, and by one that shows a byte
pub counting_start : (bs : List ℕ) → Counting bs 0 0
counting_start bs = record { inside = omega arith; small = omega arith; sum = omega arith }

module _ (bs : List ℕ) (i n next : ℕ) (g : Counting bs i n) where
  counted : (b : Option ℕ) → Shows bs i b next → n + (length (shown b) + length (text_of (units (drop next bs)))) ≡ length (text_of (units bs))
  counted b s = ap (λ (k : ℕ). n + k) (sym (ap length s.text ∙ length-append (shown b) (text_of (units (drop next bs))))) ∙ g.sum

  pub counting_none : Shows bs i None next → Counting bs next n
  counting_none s = record { inside = s.inside; small = omega (arith, s.on, g.small); sum = omega (arith, counted None s) }

  pub counting_one : (b : ℕ) → Shows bs i (Some b) next → Counting bs next (n + 1)
  counting_one b s = record { inside = s.inside; small = omega (arith, s.on, g.small); sum = omega (arith, counted (Some b) s) }

pub writing_start : (bs out : List ℕ) → Writing bs out out 0 0
writing_start bs out = record { counts = counting_start bs; long = refl; text = refl; rest = refl }

module _ (bs out₀ out : List ℕ) (i n next : ℕ) (g : Writing bs out₀ out i n) where
  pub writing_none : Shows bs i None next → Writing bs out₀ out next n
  writing_none s = record {
    counts = counting_none bs i n next g.counts s;
    long = g.long;
    text = ap (λ (t : List ℕ). take n out ++ t) (sym s.text) ∙ g.text;
    rest = g.rest;
  }

  pub writing_one : (b : ℕ) → Shows bs i (Some b) next → n < length out → Writing bs out₀ (set out n b) next (n + 1)
  writing_one b s room = record {
    counts = counting_one bs i n next g.counts b s;
    long = length-set out n b ∙ g.long;
    text =
        ap (λ (t : List ℕ). t ++ text_of (units (drop next bs))) (ap (λ (k : ℕ). take k (set out n b)) (add-one n) ∙ take-suc-set out n b room)
        ∙ append_assoc (take n out) (b ∷ []) (text_of (units (drop next bs)))
        ∙ ap (λ (t : List ℕ). take n out ++ t) (sym s.text)
        ∙ g.text;
    rest = drop-set-lt (n + 1) out n b (omega arith) ∙ sym (drop-drop 1 n out) ∙ ap (drop 1) g.rest ∙ drop-drop 1 n out₀;
  }
