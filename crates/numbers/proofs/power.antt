-- The laws of the whole t-th root, and the largest that a walk has.
pub mod Powers
pub mod Largest
pub mod Near
