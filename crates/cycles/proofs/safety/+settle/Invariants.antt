-- `cycles::safety::settle` keeps the marks on safe nodes alone. The measure is the depth left.
-- Assumes nothing.
use Rattle.grammar.specs.Table.{nodes}
use Rattle.grammar.specs.Law.{Under}
use Rattle.grammar.specs.Named.{named}
use Rattle.cycles.specs.Safe.{SafeMarks}
use Rattle.cycles.proofs.safety.+settle.Given as goal

abbrev pub decreases-settle : goal.decreases-settle
decreases-settle l = l.left

abbrev pub invariant-loop-k : goal.invariant-loop-k
invariant-loop-k l = Under (nodes l.w.table) (named l.k-iterator) × SafeMarks l.w.table l.w.pool l.w.plan l.safe
