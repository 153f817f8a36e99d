-- The laws of lines, what callers know of a line that was read, and how it is read.
pub mod Answered
mod Words
mod Rest
mod Counting
mod Storing
