-- The two walks over rules, and what the contracts of the code cite.
pub mod Walk
pub mod Run
pub mod Room
pub mod Laid
pub mod Plan
pub mod Lent
