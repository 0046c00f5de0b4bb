-- Document 01, "Entries": the record of an entry, writing it, and the way from one written record to the next.
pub mod Record
pub mod Write
pub mod Step
