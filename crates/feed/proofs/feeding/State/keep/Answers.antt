-- `keep` meets its contract: the byte is set, and with the entry's last one it is whole.
-- Assumes nothing.
use mathlib.Core.Path.{sym, ◌∙◌}
use Rattle.feed.specs.Feed.{run_in}
use Rattle.feed.proofs.StepLaws.{kept_more, kept_last}
use Rattle.feed.proofs.feeding.State.keep.Goals as goal

pub returns-then-fill-l : goal.returns-then-fill-l
returns-then-fill-l c = sym (kept_more (run_in c.args.self.now c.args.records.now) c.args.b _ c.from-l.ensures c.if-fill-l.true)

pub returns-else-fill-l : goal.returns-else-fill-l
returns-else-fill-l c = c.complete.ensures ∙ sym (kept_last (run_in c.args.self.now c.args.records.now) c.args.b _ c.from-l.ensures c.if-fill-l.false)
