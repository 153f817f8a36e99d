-- `cycles::safety::all_safe` makes passes while they go well, and settles what is left.
-- Assumes nothing.
use Rattle.grammar.specs.Table.{nodes}
use Rattle.cycles.specs.Safe.{SafePass}
use Rattle.cycles.proofs.safety.all_safe.Given as goal

abbrev pub invariant-loop-left : goal.invariant-loop-left
invariant-loop-left l = SafePass l.w.table l.w.pool l.w.plan l.safe (nodes l.w.table) l.left

abbrev pub decreases-loop-left : goal.decreases-loop-left
decreases-loop-left l = l.left
