-- The laws of the root, and the arithmetic of Newton's step.
pub mod WholeRoot
pub mod Square
mod Newton
