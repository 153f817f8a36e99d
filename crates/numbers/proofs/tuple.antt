-- The laws of tuples, and of the code's arrays and sums.
mod Places
pub mod SplitJoin
pub mod Order
pub mod Least
pub mod Square
mod Worked
mod Weighing
mod Spreading
mod Ranking
