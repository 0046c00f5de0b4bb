-- `record::step::record_length` meets its contract. The two tests are those of the definition.
-- Assumes nothing.
use mathlib.Core.Path.{sym, ◌∙◌}
use native.Mathlib.Omega.{arith}
use Rattle.record.proofs.StepLaws.{size_untagged, size_whole, size_cut}
use Rattle.record.proofs.step.record_length.Goals as goal

pub returns-then-tag-gt18 : goal.returns-then-tag-gt18
returns-then-tag-gt18 c = sym (size_untagged _ (omega arith))

pub returns-then-n-bytes : goal.returns-then-n-bytes
returns-then-n-bytes c =
    let n = rw c.at-tag.ensures.0 at c.tagged_size-n.ensures in
    n ∙ sym (size_whole _ (omega arith) (rw n at c.if-n-bytes.true))

pub returns-else-n-bytes : goal.returns-else-n-bytes
returns-else-n-bytes c =
    let n = rw c.at-tag.ensures.0 at c.tagged_size-n.ensures in
    sym (size_cut _ (omega arith) (rw n at c.if-n-bytes.false))
