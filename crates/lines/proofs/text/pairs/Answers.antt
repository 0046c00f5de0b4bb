-- A byte more: its two digits stand behind those so far.
use Rattle.std.proofs.Common.{◌≡◌, ◌<◌, ℕ, List, [], ◌∷◌, ◌++◌, length, take, set, false, ◌+◌, ◌*◌, ◌/◌, ◌%◌, ◌∙◌, ap, arith, sym, append_assoc, length-set}
use Rattle.std.specs.Fmt.{digit_glyph}
use Rattle.std.proofs.lemmas.Grind.{take-set_at}
use Rattle.std.proofs.lemmas.List.{take_more, flat_map_more}
use Rattle.std.specs.List.{flat_map}
use Rattle.lines.specs.Hex.{hex_pair}
use Rattle.lines.proofs.text.pairs.Goals as goal
use lib.ListN.{get_or}

-- the digits of one byte more
more : (bs : List ℕ) (i : ℕ) → i < length bs → flat_map hex_pair (take i bs) ++ hex_pair (get_or bs i 0) ≡ flat_map hex_pair (take (i + 1) bs)
more bs i within = flat_map_more hex_pair [] (take i bs) (get_or bs i 0) ∙ sym (ap (flat_map hex_pair) (take_more bs i 0 within))

-- two numbers more
two_more : (room : List ℕ) (i x y : ℕ) → 2 * i + 1 < length room
    → take (2 * (i + 1)) (set (set room (2 * i) x) (2 * i + 1) y) ≡ take (2 * i) room ++ (x ∷ y ∷ [])
two_more room i x y within =
    take-set_at (set room (2 * i) x) (2 * i + 1) (2 * (i + 1)) y (omega arith) (omega (arith, length-set {A = ℕ}))
    ∙ ap (λ l. l ++ (y ∷ [])) (take-set_at room (2 * i) (2 * i + 1) x (omega arith) (omega arith))
    ∙ append_assoc (take (2 * i) room) (x ∷ []) (y ∷ [])

-- two digits are the pair that they show
same_pair : (b x y : ℕ) → x ≡ digit_glyph false (b / 16) → y ≡ digit_glyph false (b % 16) → x ∷ y ∷ [] ≡ hex_pair b
same_pair b x y high low = ap (λ d. d ∷ y ∷ []) high ∙ ap (λ d. digit_glyph false (b / 16) ∷ d ∷ []) low

pub loop-i-preserved : goal.loop-i-preserved
loop-i-preserved c =
    let i = c.loop-i.i in
    let chunk = c.args.chunk.now in
    let x = c.glyph.result in
    let y = c.glyph-in-loop-i.result in
    two_more c.loop-i.room i x y (omega arith)
    ∙ ap (λ l. l ++ (x ∷ y ∷ [])) c.loop-i.invariant
    ∙ ap (λ l. flat_map hex_pair (take i chunk) ++ l) (same_pair (get_or chunk i 0) x y c.glyph.ensures c.glyph-in-loop-i.ensures)
    ∙ more chunk i (omega arith)
