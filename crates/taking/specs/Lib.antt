-- What the contract of the reading walk cites beside those of `walk`.
pub mod Took
pub mod Number
