-- `capi::put_state` meets its contract. The numbers, and behind them the three tables.
-- What its types say of the state is all that reading it back asks for. The search does not reach the last table's by itself.
-- Assumes nothing.
use Rattle.std.proofs.Common.{◌≡◌, length, length-append, sym, ap, ◌∙◌, arith, rules}
use Rattle.bits.proofs.LawsFront.{fitted, follows}
use Rattle.capi.proofs.StateLaws.{core_length, to_pending, Typed, read_back}
use Rattle.capi.specs.State.{core_bytes, state_in}
use Rattle.capi.proofs.feeding.put_state.Goals as goal

pub returns : goal.returns
returns c =
    let s = c.args.s in
    let h : length s.header ≡ 16 = search rules in
    let p : length s.pending ≡ 255 = search rules in
    let k : length s.kinds ≡ 64 = search (rules, c.well_formed.0.1.1.1) in
    let core = follows 53 (sym (core_length s.core)) c.put_core.ensures (fitted c.put_all.ensures (search rules)) in
    let front = follows 69 (omega (arith, length-append (core_bytes s.core) s.header, core_length s.core)) core (fitted c.put_all-2.ensures (search rules)) in
    let wrote = follows 324 (sym (to_pending s h p)) front (fitted c.put_all-3.ensures (search rules)) in
    let g = c.well_formed.0 in
    let typed : Typed s = search (rules, g, h, p, k) in
    record { bytes = wrote; back = ap state_in wrote.holds ∙ read_back s _ typed }
