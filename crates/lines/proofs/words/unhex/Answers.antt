-- A pair whose first byte is no hex digit: the word has a byte that is none.
use Rattle.std.proofs.Common.{rules, ◌≡◌, [], length, ℕ, false, List, ◌∷◌, ◌++◌, ◌&&◌, None, ap, sym, ◌∙◌, arith}
use Rattle.std.specs.Option.{is_some}
use Rattle.lines.specs.Words.{hex_digit, all_hex}
use Rattle.lines.proofs.words.unhex.Goals as goal
use lib.ListN.{get_or}

first_not : (pair rest text : List ℕ) → length pair ≡ 2 → hex_digit (get_or pair 0 0) ≡ None → text ≡ pair ++ rest → all_hex text ≡ false
first_not [] rest text e none split = absurd (omega (arith, e))
first_not (a ∷ pair) rest text e none split = ap all_hex split ∙ ap (λ o. is_some o && all_hex (pair ++ rest)) none

pub returns-in_err-digit : goal.returns-in_err-digit
returns-in_err-digit c =
    let split = c.in-Some.ensures.steps.1.1 in
    let none : all_hex c.args.word.now ≡ false = sym c.loop-byte.invariant.hex ∙ first_not c.in-Some.pair.now _ _ (split.1 ∙ c.loop-byte.invariant.pairs) (search rules) split.0 in
    search rules
