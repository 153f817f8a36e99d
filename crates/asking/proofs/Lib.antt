-- What the proofs of more than one function, and those of the calls, cite.
pub mod Comparing
pub mod Buffers
