-- Document 01, "Entries" and "Numbers given back": the numbers of the refusals, the adapters' kinds, the rows of the table, an entry's values or refusal, and what "fit for its kind" means.
pub mod Refusals
pub mod Adapters
pub mod Rows
pub mod Names
pub mod Decode
pub mod Fit
