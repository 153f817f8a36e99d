-- The laws of or.
pub mod SplitJoin
