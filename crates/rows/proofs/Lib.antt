-- What the proofs of the row calls and of the reader cite.
pub mod Outcomes
pub mod Values
pub mod Calls
pub mod WrittenInTurn
pub mod Gathering
pub mod Cuts
pub mod CountedRows
pub mod Answers
