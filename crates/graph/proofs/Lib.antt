-- What is proved of paths, marks and searches in any graph.
pub mod Marks
pub mod Paths
pub mod Search
pub mod Ways
pub mod Lowest
