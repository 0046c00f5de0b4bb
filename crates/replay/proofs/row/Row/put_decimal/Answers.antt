-- The digits stand before what stood there, and the space before them: twenty digits leave room for it.
use Rattle.std.proofs.Common.{◌∷◌, ◌++◌, ap, ◌∙◌, arith, length-drop}
use Rattle.std.specs.Fmt.{decimal}
use Rattle.replay.proofs.Digits.{at_most_twenty}
use Rattle.replay.proofs.row.Row.put_decimal.Goals as goal

pub returns-then-self-gt20 : goal.returns-then-self-gt20
returns-then-self-gt20 c fits = let w = c.write_digits-self-inside in
    c.put_space.ensures (omega (arith, length-drop w.result w.new.buf, w.ensures.start, at_most_twenty c.args.n c.ranges.n.fits, c.if-self-gt20.true))
    ∙ ap (λ t. 32 ∷ t) w.ensures.written ∙ ap (λ t. 32 ∷ (decimal c.args.n ++ t)) c.self.view_is
