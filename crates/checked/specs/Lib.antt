-- What every public call does inside.
pub mod Prepared
pub mod Fits
pub mod Item
pub mod Opening
pub mod Opened
