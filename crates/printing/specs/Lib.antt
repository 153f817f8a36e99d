-- What the printing program reads and prints.
pub mod Texts
pub mod Input
pub mod Shape
pub mod Printed
