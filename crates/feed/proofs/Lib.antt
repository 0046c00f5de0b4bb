-- The laws behind the promises of this crate: of the bounds, a step, the loop over a piece, an opening, the kinds, the register and a prefix;
-- then cutting, what is never told, what each piece leaves, what a finish says, and demand 3. Assumes nothing.
pub mod BoundsLaws
pub mod StepLaws
pub mod MoveLaws
pub mod WithinLaws
pub mod EndLaws
pub mod EntryBytes
pub mod AlongLaws
pub mod FeedLaws
pub mod OpenLaws
pub mod KindLaws
pub mod RegisterLaws
pub mod Cutting
pub mod Never
pub mod Widths
pub mod PrefixEntries
pub mod PrefixHeader
pub mod PrefixLaws
pub mod Pieces
pub mod FinishLaws
pub mod AnyState
pub mod Demand3
pub mod PrefixBegins
