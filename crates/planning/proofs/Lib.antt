-- What the proofs of more than one function, and of higher crates, cite.
pub mod Plans
pub mod Scan
