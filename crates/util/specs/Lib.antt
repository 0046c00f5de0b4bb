-- Document 01, "Header" and "Entries": the checksums (Crc) and the texts (Utf16, Utf8). Rfc3720 and Utf16Form say what CRC32 and UTF-16 are by
-- their own documents. Tables, Shown and Chars serve private functions' contracts.
pub mod Crc
pub mod Rfc3720
pub mod Tables
pub mod Range
pub mod Utf16
pub mod Shown
pub mod Utf8
pub mod Utf16Form
pub mod Chars
