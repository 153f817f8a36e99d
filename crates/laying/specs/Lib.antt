-- What the contracts of the writing walk cite beside those of `walk`.
pub mod Sure
pub mod Parts
pub mod Rest
