-- `cycles::search::comes_back` searches the table from a node. A node is opened once, and the search goes back up only after an again.
-- Assumes nothing.
use Prim.Native.Nat.{◌+◌, ◌*◌}
use Rattle.graph.proofs.Marks.{unmarked}
use Rattle.cycles.proofs.Table.{Sought}
use Rattle.cycles.proofs.search.comes_back.Given as goal

abbrev pub invariant-loop-top : goal.invariant-loop-top
invariant-loop-top l = Sought l.guarded l.w.table l.w.pool l.w.plan l.n l.top l.seen l.done

abbrev pub decreases-loop-top : goal.decreases-loop-top
decreases-loop-top l = 257 * unmarked l.done + l.top
