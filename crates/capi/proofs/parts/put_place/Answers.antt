-- `capi::parts::put_place` meets its contract: with too few bytes nothing is written, else the two numbers. Assumes nothing.
use Rattle.std.proofs.Common.{◌≡◌, ℕ, [], ◌∷◌, cond, eqb, length, sym, ap, ◌∙◌}
use borrow.Author.Tests.{lt-ltb, le-ltb}
use Rattle.bits.specs.Front.{onto}
use Rattle.capi.specs.Bytes.{numbers_bytes}
use Rattle.capi.specs.Parts.{place_leaves}
use Rattle.capi.proofs.parts.put_place.Goals as goal
use Rattle.capi.proofs.parts.put_place.Goals.{then-is_empty, else-is_empty}

pub returns-then-out-lt-PLACE_SIZE-clause-place : goal.returns-then-out-lt-PLACE_SIZE-clause-place
unfolding place_leaves
returns-then-out-lt-PLACE_SIZE-clause-place c = rw (lt-ltb _ 16 c.if-out-lt-PLACE_SIZE.true)

pub returns : goal.returns
unfolding place_leaves
returns c =
    let a = c.args in
    let room = le-ltb _ 16 c.if-out-lt-PLACE_SIZE.false in
    let start : c.if-is_empty.offset ≡ cond (eqb (length a.part.now) 0) 0 a.start =
    elim c.if-is_empty.branch [
      | then-is_empty w ↦ let empty = w.if-is_empty.true in w.offset-is ∙ rw (sym c.is_empty.ensures ∙ empty)
      | else-is_empty w ↦ let there = w.if-is_empty.false in w.offset-is ∙ rw (sym c.is_empty.ensures ∙ there)
    ] in
    record { answer = rw room; place = rw room (c.put_numbers.ensures.holds ∙ ap (λ (at : ℕ). onto (numbers_bytes (at ∷ length a.part.now ∷ [])) a.out.now) start) }
