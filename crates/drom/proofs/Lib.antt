-- The laws behind the promises of this crate: of the walk, the header, the parts and the report; then the theorems of demands 1 and 2, which
-- numbers a report can have, and document 01's examples. Assumes nothing.
pub mod Joined
pub mod WalkLaws
pub mod HeaderLaws
pub mod PartLaws
pub mod ReportLaws
pub mod WalkTurns
pub mod Demand1
pub mod Demand2
pub mod NumberLaws
pub mod Examples
