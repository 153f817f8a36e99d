-- What the proofs of more than one module cite.
pub mod Fronts
pub mod Decimals
mod Worked
