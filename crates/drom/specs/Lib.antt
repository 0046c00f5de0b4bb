-- Document 01, "Numbers given back" and "Header", the walk, demand 2's cut, the report, and the parts. Walking serves a private contract.
pub mod Numbers
pub mod Header
pub mod HeaderValues
pub mod Walk
pub mod Cut
pub mod Report
pub mod Parts
pub mod Walking
