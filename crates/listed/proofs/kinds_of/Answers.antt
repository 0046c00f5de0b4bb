-- `listed::kinds_of` meets its contract: a turn takes the last of the adapters that are left, and at the end none is left.
-- Assumes nothing.
use Rattle.std.proofs.Common.{◌≡◌, List, [], ◌∷◌, ◌++◌, length, ap, ◌∙◌, sym, append_assoc, append-nil, arith, rules}
use Rattle.std.specs.Iterator.Adapters.{rev_source}
use Rattle.std.specs.Slice.Iter.{iter_rest}
use Rattle.listed.specs.declared.Adapter.{Adapter}
use Rattle.feed.specs.Kinds.{table_of}
use Rattle.listed.specs.Pairs.{pairs_of}
use Rattle.listed.proofs.kinds_of.Goals as goal

pub loop-adapter-init : goal.loop-adapter-init
unfolding table_of pairs_of
loop-adapter-init c = ([], rw append-nil (search rules), c.none-kinds.ensures)

pub loop-adapter-preserved : goal.loop-adapter-preserved
unfolding table_of pairs_of
loop-adapter-preserved c =
    let before = c.loop-adapter.invariant in
    let a = c.in-Some.adapter.now in
    let rest = iter_rest (rev_source c.next.new.self) in
    let whole = append_assoc rest (a ∷ []) before.0 in
    (a ∷ before.0, sym whole ∙ ap (λ xs. xs ++ before.0) (sym c.in-Some.ensures.steps) ∙ before.1, cc)

none_left : (rest taken list : List Adapter) → rest ++ taken ≡ list → length rest ≡ 0 → taken ≡ list
none_left [] taken list e h = e
none_left (a ∷ rest) taken list e h = absurd (omega arith)

pub returns : goal.returns
returns c =
    let at_end = c.loop-adapter.invariant in
    at_end.2 ∙ ap (λ list. table_of (pairs_of list)) (none_left _ at_end.0 c.args.list.now at_end.1 c.in-None.ensures.steps.0)
