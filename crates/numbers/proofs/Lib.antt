-- What the proofs of more than one module cite.
pub mod Tests
pub mod Words
