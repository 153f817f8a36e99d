-- What the proofs of the reading walk cite.
pub mod Cells
pub mod Said
pub mod Leaves
pub mod Takes
pub mod Calls
pub mod kinds
