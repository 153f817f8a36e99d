-- `cycles::search::mark_steps` marks the nodes that a node names.
-- Assumes nothing.
use Rattle.graph.specs.Marks.{marked}
use Rattle.grammar.specs.Table.{nodes}
use Rattle.grammar.specs.Named.{named}
use Rattle.grammar.specs.Shown.{steps_in}
use Rattle.cycles.proofs.Steps.{Marking}
use Rattle.cycles.proofs.search.mark_steps.Given as goal

abbrev pub invariant-loop-k : goal.invariant-loop-k
invariant-loop-k l = Marking (nodes l.w.table) (marked l.initial.seen (steps_in l.guarded l.w.table l.w.pool l.w.plan l.n)) l.seen (named l.k-iterator)
