-- `record::put_maps` meets its contract: a turn writes one map more, and at the end less than three bytes are left.
-- Assumes nothing.
use mathlib.Core.List.{[], ◌∷◌}
use mathlib.Core.Path.{◌≡◌, ◌∙◌}
use native.Mathlib.Omega.{arith}
use borrow.Author.Rules.{rules}
use lib.ListN.{length, get_or, length-append}
use Rattle.std.specs.Slice.Iter.{chunks_exact_rest}
use Rattle.bits.proofs.LawsFields.{pack_length}
use Rattle.bits.proofs.LawsFront.{fitted}
use Rattle.record.specs.Record.{map_fields}
use Rattle.record.proofs.Turns.{writing_piece, writing_end, next_map, no_map}
use Rattle.record.proofs.write.put_maps.Goals as goal

pub loop-m-preserved : goal.loop-m-preserved
unfolding map_fields
loop-m-preserved c =
    let at = c.loop-m in
    let m = c.in-Some.m.now in
    let turn = c.in-Some.ensures.steps in
    let long : length m ≡ 3 = turn.1.1 ∙ at.invariant.0 in
    let left = length-append m (chunks_exact_rest c.next.new.self) in
    let three = pack_length (map_fields (get_or m 0 0 ∷ get_or m 1 0 ∷ get_or m 2 0 ∷ [])) in
    let wrote = fitted (rw c.map.ensures at c.put-n.ensures) (rw three (search rules)) in
    let room = rw turn.1.0 at at.invariant.1 in
    (turn.0 ∙ at.invariant.0, omega (arith, room, left, wrote.counts, three), writing_piece (rw (turn.1.0, next_map m _ long) at at.invariant.2) wrote)

pub returns : goal.returns
returns c =
    let at = c.loop-m in
    writing_end (rw (no_map (chunks_exact_rest at.m-iterator) (omega (arith, c.in-None.ensures.steps.1.0, at.invariant.0))) at at.invariant.2)
