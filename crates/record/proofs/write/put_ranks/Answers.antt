-- `record::put_ranks` meets its contract: a turn writes one rank more, and at the end all are.
-- Assumes nothing.
use mathlib.Core.Path.{◌≡◌}
use native.Mathlib.Omega.{arith}
use lib.ListN.{length, length-set, drop_of_length-le}
use Rattle.record.proofs.Turns.{writing_byte, writing_end, next_rank, no_rank}
use Rattle.record.proofs.write.put_ranks.Goals as goal

pub loop-i-preserved : goal.loop-i-preserved
loop-i-preserved c =
    let at = c.loop-i in
    let next = next_rank c.args.ranks.now at.i (omega arith) (omega (arith, c.type_inv.ranks at.i)) in
    (simp length-set at.invariant.0, writing_byte (rw next at at.invariant.1) (omega arith))

pub returns : goal.returns
returns c =
    let at = c.loop-i in
    let all : length c.args.ranks.now ≡ at.i = omega arith in
    rw all (writing_end (rw (drop_of_length-le c.args.ranks.now {i = at.i} (omega arith), no_rank) at at.invariant.1))
