-- A file a kind that reads parts: what its tree reads, of what was read of them.
pub mod Or
pub mod Cons
pub mod Dep
pub mod Except
