-- Paths of any length, a test that computes whether there is one, and marks on nodes.
pub mod Paths
pub mod Ways
pub mod Marks
pub mod Lowest
