-- What the promises of this crate are made of, and the words in which a layout of bits and bytes is written down.
pub mod Fields
pub mod Front
pub mod Bits
