-- What the contracts of this crate cite.
pub mod Hex
pub mod Words
