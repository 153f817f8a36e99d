-- The laws of dep.
pub mod SplitJoin
