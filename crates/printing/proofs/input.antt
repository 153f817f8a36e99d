-- How the lines of an input are read.
pub mod Numbers
mod Lines
