-- The laws of except.
pub mod SplitJoin
