-- `drom::walk::entry_at` meets its contract: it is what `write_entry` answers and leaves, which has room and finds the kind that is listed.
-- Assumes nothing.
use mathlib.Core.Path.{◌≡◌, sym, ◌∙◌}
use Prim.Native.Nat.{◌*◌, ◌≤◌}
use native.Mathlib.Omega.{arith}
use lib.ListN.{length}
use Rattle.entry.specs.Decode.{decode_of}
use Rattle.entry.specs.Adapters.{kind_in}
use Rattle.drom.specs.Walk.{front_at}
use Rattle.record.proofs.WriteLaws.{room_answer, room_leaves}
use Rattle.drom.proofs.walk.entry_at.Goals as goal

pub returns : goal.returns
returns c =
    let drom = c.args.drom.now in
    let at = c.args.at in
    let out = c.args.out.now in
    let k = c.listed_kind.result in
    let bytes = c.in_ok-bytes.bytes.now in
    let s = c.in_ok-bytes.ensures in
    let room : 4 * length bytes ≤ length out = omega (arith, s.inside, c.requires.1) in
    let there : decode_of k bytes ≡ front_at (kind_in c.args.list.now) drom at = c.listed_kind.ensures ∙ sym (s.front (kind_in c.args.list.now)) in
    record {
      answer = rw (← s.is, ← there) (c.write_entry.ensures.answer ∙ room_answer bytes k at (length out) room);
      buffer = rw (← s.is, ← there) (c.write_entry.ensures.buffer ∙ room_leaves bytes k at out room);
    }
