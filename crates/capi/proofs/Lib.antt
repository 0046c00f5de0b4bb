-- The laws of the layouts, and what demands 1 and 3 say to a caller in C. Assumes nothing.
pub mod ByteLaws
pub mod StateLaws
pub mod Examples
pub mod PlaceLaws
pub mod OneAnswer
pub mod Stays
pub mod AnyState
pub mod Never
pub mod Demand3
