-- `entry::parse::adapter_entry` meets its contract. Each arm is the row of its kind; the last is that of a kind with no row.
-- Assumes nothing.
use mathlib.Core.Path.{refl, sym, ap, ◌∙◌}
use borrow.Author.Rules.{rules}
use Rattle.std.proofs.lemmas.Result.{err_from_is_err_and}
use Prim.Native.Nat.{ℕ}
use Rattle.entry.specs.declared.parse.DromEntry.{DromEntry}
use Rattle.entry.specs.declared.parse.DromEntry.TheVariants as declared
use Rattle.entry.specs.Rows.{Row, adapter, pcie_up, pcie_down}
use Rattle.entry.specs.Decode.{row_entry}
use Rattle.entry.proofs.DecodeLaws.{row_is_lem, read_ok, read_err, adapter_other}
use Rattle.entry.proofs.parse.Headed.adapter_entry.Goals as goal

-- the adapters of three numbers
abbrev up : ℕ × ℕ × ℕ → DromEntry
up n = declared.PcieUpAdapter n.0 n.1 n.2

abbrev down : ℕ × ℕ × ℕ → DromEntry
down n = declared.PcieDownAdapter n.0 n.1 n.2

pub returns-in_default : goal.returns-in_default
returns-in_default c =
    let bs = c.args.self.bytes.now in
    row_is_lem adapter bs refl c.args.self.headed c.other_adapter.ensures
    ∙ ap (λ (row : Row). row_entry row bs) (sym (adapter_other c.args.kind (search rules)))

pub returns-in_err-adapter_num-in-4 : goal.returns-in_err-adapter_num-in-4
returns-in_err-adapter_num-in-4 c =
    let p = err_from_is_err_and c.from_residual.result c.from_residual.ensures.1 in
    rw (p.1, p.2, c.in-4.is) (read_err pcie_up _ up _ refl _ c.in_err-adapter_num-in-4.ensures)

pub returns-in_ok-adapter_num-in-4 : goal.returns-in_ok-adapter_num-in-4
returns-in_ok-adapter_num-in-4 c = rw c.in-4.is (read_ok pcie_up _ up _ refl _ c.in_ok-adapter_num-in-4.ensures)

pub returns-in_err-adapter_num-in-5 : goal.returns-in_err-adapter_num-in-5
returns-in_err-adapter_num-in-5 c =
    let p = err_from_is_err_and c.from_residual-in_err-adapter_num-in-5.result c.from_residual-in_err-adapter_num-in-5.ensures.1 in
    rw (p.1, p.2, c.in-5.is) (read_err pcie_down _ down _ refl _ c.in_err-adapter_num-in-5.ensures)

pub returns-in_ok-adapter_num-in-5 : goal.returns-in_ok-adapter_num-in-5
returns-in_ok-adapter_num-in-5 c = rw c.in-5.is (read_ok pcie_down _ down _ refl _ c.in_ok-adapter_num-in-5.ensures)
