-- The laws of size.
pub mod SizeWords
