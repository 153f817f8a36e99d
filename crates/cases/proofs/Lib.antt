-- What the proofs of the calls cite, what the check's verdict means, what is known by an answer, worked cases, and that every walk of an accepted table ends.
pub mod Values
pub mod Calls
pub mod Meaning
pub mod Counted
pub mod WalkAnswers
pub mod BothSides
pub mod Counts
pub mod Ranks
pub mod Ends
