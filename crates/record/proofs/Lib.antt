-- The laws behind the promises of this crate: how long payloads and records are, the loops that write them, what `write_entry` promises, and
-- the way from one record to the next. Assumes nothing.
pub mod PayloadLength
pub mod RecordLaws
pub mod Turns
pub mod TextLaws
pub mod Known
pub mod Lengths
pub mod PayloadPut
pub mod WriteLaws
pub mod StepLaws
