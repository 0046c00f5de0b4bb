-- The laws behind the promises of this crate: lists of adapters as bytes, and what a reading depends on. Assumes nothing.
pub mod ListLaws
