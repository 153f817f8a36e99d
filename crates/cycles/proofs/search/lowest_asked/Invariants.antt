-- `cycles::search::lowest_asked` asks the nodes, rising.
-- Assumes nothing.
use Rattle.cycles.proofs.Table.{Passed}
use Rattle.cycles.proofs.search.lowest_asked.Given as goal

abbrev pub invariant-loop-n : goal.invariant-loop-n
invariant-loop-n l = Passed l.guarded l.w.table l.w.pool l.w.plan l.n
