-- `drom::walk::listed_kind` meets its contract: the kind does not matter for one byte, a generic kind or an unused adapter, and else it is
-- the search's.
-- Assumes nothing.
use mathlib.Core.Path.{◌≡◌, sym, ◌∙◌}
use mathlib.Core.List.{List}
use Prim.Native.Nat.{ℕ}
use native.Mathlib.Omega.{arith}
use Rattle.entry.specs.Rows.{Row, row_of}
use Rattle.entry.specs.Decode.{decode_of}
use Rattle.entry.proofs.DecodeLaws.{row_unknown, row_generic, row_unused, decode_row}
use Rattle.drom.proofs.walk.listed_kind.Goals as goal

-- bytes that have one row by whatever kind decode alike by any two
alike : (bs : List ℕ) (row : Row) → ((kind : ℕ) → row_of kind bs ≡ row) → (j k : ℕ) → decode_of j bs ≡ decode_of k bs
alike bs row same j k = decode_row j bs row (same j) ∙ sym (decode_row k bs row (same k))

pub returns-in_default : goal.returns-in_default
returns-in_default c = alike c.args.bytes.now _ (λ kind. row_unknown kind c.args.bytes.now (omega arith)) 0 _

pub returns-in_default-2 : goal.returns-in_default-2
returns-in_default-2 c = alike c.args.bytes.now _ (λ kind. row_generic kind c.args.bytes.now (omega arith) (omega arith)) 0 _

pub returns-in_default-3 : goal.returns-in_default-3
returns-in_default-3 c =
    let b = c.type_inv.bytes 1 in
    alike c.args.bytes.now _ (λ kind. row_unused kind c.args.bytes.now (omega arith) (omega arith) (omega arith) (omega arith)) 0 _
