-- What the contracts of the calls from a shell cite.
pub mod Line
pub mod Calls
pub mod Input
pub mod Desk
