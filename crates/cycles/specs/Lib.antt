-- The cycles are the grammar's: `Rattle.grammar.specs.Steps` and `Verdict`. Here is what the code marks and asks to find them.
pub mod Asked
pub mod Safe
pub mod Finds
