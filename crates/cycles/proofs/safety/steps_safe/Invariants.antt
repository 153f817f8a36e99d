-- `cycles::safety::steps_safe` asks the nodes that a node steps to.
-- Assumes nothing.
use mathlib.Core.Bool.{false}
use Rattle.grammar.specs.Table.{nodes}
use Rattle.grammar.specs.Named.{named}
use Rattle.grammar.specs.Shown.{steps_in}
use Rattle.cycles.specs.Safe.{is_marked}
use Rattle.cycles.proofs.Steps.{Asking}
use Rattle.cycles.proofs.safety.steps_safe.Given as goal

abbrev pub invariant-loop-k : goal.invariant-loop-k
invariant-loop-k l = Asking (nodes l.w.table) (is_marked l.safe) (steps_in false l.w.table l.w.pool l.w.plan l.n) (named l.k-iterator)
