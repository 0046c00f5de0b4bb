-- The laws for the proofs of this crate and of those above it, and three theorems that say what a definition means: CrcMeans, Utf8Means, Utf16Means.
pub mod Xor
pub mod Table
pub mod CrcLaws
pub mod CrcMeans
pub mod Text
pub mod Chars
pub mod Rows
pub mod Utf8Means
pub mod Utf16Means
pub mod Utf16Numbers
pub mod LoopLaws
