-- `planning::plan::weigh_all` goes through the nodes, rising.
-- Assumes nothing.
use Rattle.planning.proofs.Scan.{Weighing}
use Rattle.planning.proofs.plan.weigh_all.Given as goal

abbrev pub invariant-loop-n : goal.invariant-loop-n
invariant-loop-n l = Weighing l.table l.pool l.initial.plan l.n l.plan
