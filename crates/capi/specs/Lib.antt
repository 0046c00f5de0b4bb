-- What the calls of C and Rust answer and leave: the layouts of a report, a state and a place, the calls over them, and feeding by these.
pub mod Numbers
pub mod Bytes
pub mod Report
pub mod State
pub mod Calls
pub mod Feeding
pub mod Parts
pub mod Listing
