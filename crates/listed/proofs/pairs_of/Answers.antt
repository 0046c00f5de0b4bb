-- `listed::pairs_of` meets its contract: a turn writes a pair, and at the end no kind is left.
-- Assumes nothing.
use Rattle.std.proofs.Common.{arith, rules}
use Rattle.listed.proofs.ListLaws.{pairs_on, pairs_end}
use Rattle.listed.proofs.pairs_of.Goals as goal

pub loop-i-preserved : goal.loop-i-preserved
loop-i-preserved c =
    (search rules, search rules, pairs_on c.args.kinds.of c.loop-i.pairs c.loop-i.i (omega arith) (omega arith) c.loop-i.invariant.2)

pub returns : goal.returns
returns c = pairs_end c.args.kinds.of c.loop-i.pairs c.loop-i.i (omega arith) (omega arith) c.loop-i.invariant.2
