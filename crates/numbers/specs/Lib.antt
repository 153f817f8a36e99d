-- The definitions of document 01, "From a number to cells", over whole numbers without limit.
pub mod Pick
pub mod Size
pub mod Joined
pub mod Root
pub mod Cons
pub mod Or
pub mod Dep
pub mod Except
pub mod Power
pub mod Tuple
pub mod Weights
