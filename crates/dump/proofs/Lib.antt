-- The laws behind the promise of this crate.
pub mod InputLaws
