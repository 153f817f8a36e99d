-- `cycles::safety::all_settled` settles the nodes, rising.
-- Assumes nothing.
use Rattle.cycles.proofs.Safe.{Settled}
use Rattle.cycles.proofs.safety.all_settled.Given as goal

abbrev pub invariant-loop-n : goal.invariant-loop-n
invariant-loop-n l = Settled l.w.table l.w.pool l.w.plan l.safe l.n
