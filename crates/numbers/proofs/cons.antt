-- The laws of cons, and how the code tells its cases apart.
pub mod SplitJoin
mod Arms
