-- What the calls on one case print.
pub mod Check
pub mod Read
pub mod Write
