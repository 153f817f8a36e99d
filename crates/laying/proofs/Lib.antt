-- What the proofs of the writing walk cite.
pub mod Calls
pub mod Lays
pub mod Sures
