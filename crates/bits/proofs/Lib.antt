-- Laws for the proofs of this crate and of those above it, and examples.
pub mod Examples
pub mod LawsFields
pub mod LawsFront
pub mod LittleEndian
pub mod OneAnswer
