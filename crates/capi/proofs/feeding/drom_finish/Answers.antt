-- `capi::drom_finish` meets its contract: without a state or room nothing is done, and else the report of the finish is written.
-- Assumes nothing.
use mathlib.Core.Path.{ap, ◌∙◌}
use lib.ListN.{length}
use Rattle.bits.specs.Front.{onto}
use Rattle.drom.specs.declared.reader.Report.{Report}
use Rattle.feed.specs.Feed.{finish_of}
use Rattle.capi.specs.Report.{report_bytes}
use borrow.Author.Tests.{le-ltb}
use Rattle.capi.proofs.feeding.drom_finish.Goals as goal

pub returns : goal.returns
returns c =
    let a = c.args in
    let state = le-ltb (length a.state.now) 388 c.if-state-lt-STATE_SIZE.false in
    let room = le-ltb (length a.report.now) 96 c.if-report-lt-REPORT_SIZE.false in
    let finished = c.finish-r.ensures ∙ ap finish_of c.state_in-s.ensures in record { answer = rw (state, room) (ap (λ (r : Report). r.number) finished); report = rw (state, room) (c.put_report.ensures.holds ∙ ap (λ (r : Report). onto (report_bytes r) a.report.now) finished) }
