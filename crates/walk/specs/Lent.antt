-- What a walk is lent beside its cells.
--   pool_of, plan_of   the pool; the plan
-- Assumes nothing.
use Rattle.std.specs.Prelude.{List, ℕ}
use Rattle.grammar.specs.declared.entry.Entry.{Entry}
use Rattle.walk.specs.declared.lent.Lent.{Lent}

abbrev pub pool_of : Lent → List ℕ
pool_of g = g.pool.now

abbrev pub plan_of : Lent → List Entry
plan_of g = g.plan.now
