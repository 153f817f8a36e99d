-- What a contract sees of the struct `Weighed`.
--   Sized   a table, its pool, and a plan that has the sizes
-- Assumes nothing.
use Rattle.std.specs.Prelude.{List, ℕ}
use Rattle.grammar.specs.declared.entry.Entry.{Entry}

pub record Sized : Type 0 where
  pub table : List ℕ
  pub pool : List ℕ
  pub plan : List Entry
