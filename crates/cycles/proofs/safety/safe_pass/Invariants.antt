-- `cycles::safety::safe_pass` marks the nodes whose steps lead to safe nodes, rising.
-- Assumes nothing.
use Prim.Native.Nat.{◌≤◌}
use Rattle.grammar.specs.Table.{nodes}
use Rattle.cycles.specs.Safe.{SafePass}
use Rattle.cycles.proofs.safety.safe_pass.Given as goal

abbrev pub invariant-loop-n : goal.invariant-loop-n
invariant-loop-n l = (l.n ≤ nodes l.w.table) × (l.left ≤ l.n) × SafePass l.w.table l.w.pool l.w.plan l.safe l.n l.left
