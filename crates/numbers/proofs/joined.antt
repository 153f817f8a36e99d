-- The law of a joined number.
pub mod Capped
