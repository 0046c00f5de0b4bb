-- `drom::reader::read` meets its contract: a refusal before the entries leaves the buffer as lent, and else the report is of the header's values
-- and of what the walk tells. An accepted header has the sizes that the walk requires.
-- Assumes nothing.
use mathlib.Core.Path.{◌≡◌, sym, ap, ◌∙◌}
use native.Mathlib.Omega.{arith}
use borrow.Author.Tests.{le-ltb}
use borrow.Author.Rules.{part_to_end}
use Rattle.util.specs.Crc.{crc_of32}
use Rattle.drom.specs.Header.{crc32_right}
use Rattle.entry.proofs.FitLaws.{some_number}
use lib.ListN.{length, drop}
use Rattle.drom.specs.HeaderValues.{values_in}
use Rattle.drom.specs.Report.{refusal_of, refused_report}
use Rattle.drom.proofs.HeaderLaws.{sizes, opened}
use Rattle.drom.proofs.ReportLaws.{report_walked, report_refused, leaves_walked, leaves_refused}
use Rattle.drom.proofs.reader.read.Goals as goal

pub returns-in-Err : goal.returns-in-Err
returns-in-Err c =
    let list = c.args.list.now in
    let drom = c.args.drom.now in
    let out = c.args.out.now in
    let some : refusal_of list drom (length out) ≡ 0 → ⊥ = λ z. omega (arith, some_number c.in-Err.r, c.in-Err.ensures) in
    record {
      report = c.refused_report.ensures ∙ ap refused_report (c.into.ensures ∙ c.in-Err.ensures) ∙ sym (report_refused list drom (length out) some);
      buffer = sym (leaves_refused list drom out some);
    }

pub returns : goal.returns
unfolding crc32_right
returns c =
    let list = c.args.list.now in
    let drom = c.args.drom.now in
    let out = c.args.out.now in
    let accepted : refusal_of list drom (length out) ≡ 0 = sym c.in_default.ensures in
    let s = sizes drom (opened list drom (length out) accepted).1 in
    let values : c.header_values-h.result ≡ values_in drom = c.header_values-h.ensures ∙ rw (le-ltb (length drom) 16 s.least) in
    let t = rw values at c.walk-w.ensures in
    let n = c.told-number.ensures in
    let crc32 : c.crc32.result ≡ crc_of32 (drop 13 drom) = c.crc32.ensures ∙ ap crc_of32 (part_to_end drom 13) in
    record {
      report = rw (report_walked list drom (length out) accepted, values, n.0 ∙ t.number, n.1 ∙ t.offset, crc32, t.records, t.bytes);
      buffer = t.buffer ∙ sym (leaves_walked list drom out accepted);
    }
