-- `feed::feed_parts` meets its contract: the state that is fed is the four parts, and a feed leaves its kinds as they were.
-- Assumes nothing.
use mathlib.Core.Path.{sym, ap, ap₂, ◌∙◌}
use mathlib.Core.List.{List}
use Prim.Native.Nat.{ℕ}
use Rattle.feed.specs.Feed.{Answer, answer, state_of}
use Rattle.feed.proofs.FeedLaws.{feed_kinds}
use Rattle.feed.proofs.feeding.feed_parts.Goals as goal

pub returns : goal.returns
returns c =
    let told = c.feed_in_place.ensures in
    let s = c.feed_in_place.new.state in
    let kinds = ap (λ (a : Answer). a.fed.state.kinds) told ∙ feed_kinds _ _ _ in
    ap₂ (λ (n : ℕ) (k : List ℕ). answer n (state_of s.core s.header s.pending k) c.feed_in_place.new.records) c.answer_number-number.ensures (sym kinds)
    ∙ told
