-- The laws of numerals, and how one is read.
pub mod Digits
mod Runs
mod Values
mod At
