-- Document 01, "Feeding": a byte's step (Run), the bounds of a state (Bounds), the calls (Feed), and what demand 3 says of them (Prefix,
-- Pieces). Loop serves private contracts.
pub mod Kinds
pub mod Run
pub mod Bounds
pub mod Loop
pub mod Feed
pub mod Prefix
pub mod Pieces
