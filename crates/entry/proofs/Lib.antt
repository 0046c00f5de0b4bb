-- The laws behind the promises of this crate: of the adapters' search, of names, of decoding row by row, and which entries are fit.
-- Assumes nothing.
pub mod AdapterLaws
pub mod NameLaws
pub mod DecodeLaws
pub mod FitLaws
