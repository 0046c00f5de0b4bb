-- What the proofs of this crate cite. Assumes nothing.
mod Digits
